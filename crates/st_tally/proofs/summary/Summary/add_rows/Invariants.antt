use Rattle.std.proofs.Common.{List, ◌++◌, take}
use Rattle.st_index.specs.declared.row.Row.{Row}
use Rattle.st_tally.specs.inner.Sums.{Sums}
use Rattle.st_tally.proofs.summary.Summary.add_rows.Given as goal

abbrev pub invariant-loop-row : goal.invariant-loop-row
invariant-loop-row g l = (rows : List (Row g.row.A.Denot)) → Sums l.initial.self rows → Sums l.self (rows ++ take l.row-index l.more)
