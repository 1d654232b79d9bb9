-- A stage of the code, which no reader has to believe: the fields of one name, and the digits of a length.
use Rattle.std.specs.Prelude.{◌≡◌, ℕ, List, [], ◌∷◌, min, if◌then◌else◌, Option, Some, None}
use Rattle.std.specs.Str.Parse.{digits_value}
use Rattle.st_http.specs.declared.fields.Named.{Named}
use Rattle.st_http.specs.declared.fields.Named.TheVariants.{Missing, Once, Repeated}
use Rattle.st_http.specs.Fields.{is_number}

-- there is no value, this one, or more than one
abbrev pub AreNamed : Named → List (List ℕ) → Type 0
AreNamed Missing values = values ≡ []
AreNamed (Once value) values = values ≡ value.now ∷ []
AreNamed Repeated values = (first : List ℕ) × (second : List ℕ) × (more : List (List ℕ)) × (values ≡ first ∷ second ∷ more)

-- the number that the text writes, or 65,537 for any above 65,536
abbrev pub bounded_number : List ℕ → Option ℕ
bounded_number text = if is_number text then Some (min (digits_value 10 text) 65537) else None
