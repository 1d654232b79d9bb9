use Rattle.std.proofs.Common.{List, ◌++◌, take}
use Rattle.st_index.specs.declared.row.Row.{Row}
use Rattle.st_index.specs.inner.Entries.{rows_of}
use Rattle.st_tally.specs.inner.Sums.{Sums}
use Rattle.st_tally.proofs.summary.Summary.add_entries.Given as goal

abbrev pub invariant-loop-entry : goal.invariant-loop-entry
invariant-loop-entry g l = (rows : List (Row g.row.A.Denot)) → Sums l.initial.self rows → Sums l.self (rows ++ rows_of (take l.entry-index l.entries))
