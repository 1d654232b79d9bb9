-- The rows that a page of a scan is of.
use Rattle.std.specs.Prelude.{List, filter, Option}
use Rattle.st_text.specs.Texts.{Text}
use Rattle.st_key.specs.declared.period.Period.{Period}
use Rattle.st_key.specs.declared.place.Place.{Place}
use Rattle.st_box.specs.declared.query.Query.{Query}
use Rattle.st_index.specs.declared.row.Row.{Row}
use Rattle.st_scan.specs.Visible.{visible_rows}
use Rattle.st_scan.specs.Pages.{is_past}

-- the seen rows that come after a place
abbrev pub visible_after : {A B : Type 0} → Period → Query → List Text → Option (Place B) → List (Row A) → List (Row A)
visible_after period q auths after content = filter (is_past period after) (visible_rows q auths content)
