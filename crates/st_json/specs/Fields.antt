-- The fields of a body, an object of JSON (RFC 8259).
use Rattle.std.specs.Prelude.{◌≡◌, ◌⊎◌, ℕ, List, [], ◌∷◌, codes, nat_le, ◌&&◌, if◌then◌else◌}
use Rattle.std.specs.Prelude.{length, find, Option, Some, None, option_map, option_and_then}
use Rattle.std.specs.Result.{result_ok}
use Rattle.hex.specs.Hex.{decode_sized}
use Rattle.serde_json.specs.Data.{Data, null, Items, no_items, item}
use Rattle.serde_json.specs.Find.{get, as_number, as_u64, as_str, as_array}
use Rattle.st_key.specs.declared.point.Point.{Point}
use Rattle.st_key.specs.declared.period.Period.{Period}
use Rattle.st_key.specs.declared.period.Period.TheVariants.{Day, Week}
use Rattle.st_key.specs.declared.place.Place.{Place}
use Rattle.st_text.specs.Texts.{Text, same}
use Rattle.st_policy.specs.Periods.{period_name}
use Rattle.st_json.specs.declared.value.Bounds.{Bounds}

-- a number that is written in digits alone, and is at most 2^64 - 1
abbrev pub as_natural : Data → Option ℕ
as_natural d = option_and_then as_u64 (as_number d)

abbrev pub text_in : Text → Data → Option Text
text_in name d = option_and_then as_str (get name d)

-- what each of the items is read as, if each of them is
abbrev pub each_read : {X : Type 0} → (Data → Option X) → Items → Option (List X)
each_read reading no_items = Some []
each_read reading (item d ds) = option_and_then (λ x. option_map (λ more. x ∷ more) (each_read reading ds)) (reading d)

-- the list of this name, each of its items read
abbrev pub list_in : {X : Type 0} → (Data → Option X) → Text → Data → Option (List X)
list_in reading name d = option_and_then (each_read reading) (option_and_then as_array (get name d))

-- the text, if its length in bytes is in the range
abbrev pub sized : ℕ → ℕ → Text → Option Text
sized least most s = if nat_le least (length s) && nat_le (length s) most then Some s else None

-- the number, if it is in the range
abbrev pub ranged : ℕ → ℕ → ℕ → Option ℕ
ranged least most n = if nat_le least n && nat_le n most then Some n else None

-- the number of this name, if it is in the range
abbrev pub number_in : ℕ → ℕ → Text → Data → Option ℕ
number_in least most name d = option_and_then (ranged least most) (option_and_then as_natural (get name d))

-- ---- the fields by name

abbrev pub six_numbers : Bounds → List ℕ
six_numbers b = b.x0 ∷ b.x1 ∷ b.y0 ∷ b.y1 ∷ b.t0 ∷ b.t1 ∷ []

-- a list of six numbers
abbrev pub HasBox : Data → Bounds → Type 0
HasBox d b = list_in as_natural (codes "box") d ≡ Some (six_numbers b)

-- a list of three numbers, those of a point
abbrev pub HasPoint : Data → Point → Type 0
HasPoint d p = list_in as_natural (codes "point") d ≡ Some (p.x ∷ p.y ∷ p.t ∷ [])

-- the 32 bytes that 64 hexadecimal digits of either case write
abbrev pub digest_of : Text → Option (List ℕ)
digest_of digits = result_ok (decode_sized digits 32)

-- the period of this name
abbrev pub as_period : Data → Option Period
as_period d = option_and_then (λ s. find (λ p. same (period_name p) s) (Day ∷ Week ∷ [])) (as_str d)

-- the week, if the value is absent or null
abbrev pub period_or_week : Option Data → Option Period
period_or_week None = Some Week
period_or_week (Some null) = Some Week
period_or_week (Some d) = as_period d

-- an object with a point, an id and a label, any two texts
pub record WritesPlace {A : Type 0} (d : Data) (place : Place A) : Type 0 where
  pub point : HasPoint d place.point
  pub id : text_in (codes "id") d ≡ Some place.id
  pub label : text_in (codes "label") d ≡ Some place.label

-- the place in the field, or none if it is absent or null
abbrev pub HasAfter : {A : Type 0} → Data → Option (Place A) → Type 0
HasAfter d None = (get (codes "after") d ≡ None) ⊎ (get (codes "after") d ≡ Some null)
HasAfter d (Some place) = (value : Data) × (get (codes "after") d ≡ Some value) × WritesPlace value place
