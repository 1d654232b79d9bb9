-- Pages of a scan.
use Rattle.std.specs.Prelude.{List, [], ◌∷◌, Bool, true, Option, Some, None}
use Rattle.st_text.specs.Texts.{Text, comes_before}
use Rattle.st_key.specs.declared.period.Period.{Period}
use Rattle.st_key.specs.declared.place.Place.{Place}
use Rattle.st_key.specs.Order.{digits_of}
use Rattle.st_index.specs.declared.row.Row.{Row}
use Rattle.st_index.specs.Order.{scan_key}

-- a place stands in a scan where a row of its point, its id and its label would
abbrev pub place_key : {A : Type 0} → Period → Place A → List Text
place_key period place = digits_of period place.point ∷ place.id ∷ place.label ∷ []

-- whether the row comes after the place, if there is one
abbrev pub is_past : {A B : Type 0} → Period → Option (Place B) → Row A → Bool
is_past period None row = true
is_past period (Some place) row = comes_before (place_key period place) (scan_key period row)
