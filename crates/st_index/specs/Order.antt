-- The order of rows in a scan.
use Rattle.std.specs.Prelude.{List, [], ◌∷◌, IsTrue}
use Rattle.std.specs.List.{All}
use Rattle.st_key.specs.declared.period.Period.{Period}
use Rattle.st_key.specs.Order.{digits_of}
use Rattle.st_text.specs.Texts.{Text, comes_before}
use Rattle.st_index.specs.declared.row.Row.{Row}

-- rows are scanned by the digits of their points, then by the bytes of their ids, then by those of their labels
abbrev pub scan_key : {A : Type 0} → Period → Row A → List Text
scan_key period row = digits_of period row.point ∷ row.id ∷ row.label ∷ []

-- each row is scanned before all that stand after it
abbrev pub InScanOrder : {A : Type 0} → Period → List (Row A) → Type 0
InScanOrder period [] = Unit {0}
InScanOrder period (row ∷ rows) = All (λ later. IsTrue (comes_before (scan_key period row) (scan_key period later))) rows
    × InScanOrder period rows
