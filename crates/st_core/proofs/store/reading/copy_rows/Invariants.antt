use Rattle.std.proofs.Common.{◌≡◌, map, take}
use Rattle.st_index.specs.RowViews.{row_of_view}
use Rattle.st_core.proofs.store.reading.copy_rows.Given as goal

-- those that have come are there
abbrev pub invariant-loop-row : goal.invariant-loop-row
invariant-loop-row g l = l.copies ≡ map row_of_view (take l.row-index l.rows)
