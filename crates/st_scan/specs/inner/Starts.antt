-- A stage of the code, which no reader has to believe: where a page begins.
use Rattle.std.specs.Prelude.{◌≡◌, List, Bool, ◌&&◌, Option, Some, None}
use Rattle.st_text.specs.Texts.{Text}
use Rattle.st_key.specs.declared.key.Key.{Key}
use Rattle.st_key.specs.declared.period.Period.{Period}
use Rattle.st_key.specs.declared.place.Place.{Place}
use Rattle.st_key.specs.Key.{IsKeyOf, rank}
use Rattle.st_index.specs.declared.row.Row.{Row}
use Rattle.st_scan.specs.Visible.{is_visible}
use Rattle.st_scan.specs.Pages.{is_past}

-- and is visible
abbrev pub is_shown : {A B : Type 0} → Period → Option (Place B) → List Text → Row A → Bool
is_shown period after auths row = is_past period after row && is_visible auths row

-- the key at which the rows after a place begin
abbrev pub IsStart : {B : Type 0} → Period → Option (Place B) → Key → Type 0
IsStart period None k = rank k ≡ 0
IsStart period (Some place) k = IsKeyOf period place.point k
