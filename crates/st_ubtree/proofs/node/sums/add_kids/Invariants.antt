use Rattle.std.proofs.Common.{List, ◌++◌, take}
use Rattle.st_index.specs.declared.row.Row.{Row}
use Rattle.st_tally.specs.inner.Pages.{rows_of_pages}
use Rattle.st_ubtree.specs.inner.Kids.{pages_of}
use Rattle.st_tally.specs.inner.Sums.{Sums}
use Rattle.st_ubtree.proofs.node.sums.add_kids.Given as goal

abbrev pub invariant-loop-kid : goal.invariant-loop-kid
invariant-loop-kid g l = (rows : List (Row g.row.A.Denot)) → Sums l.initial.sum rows → Sums l.sum (rows ++ rows_of_pages (pages_of (take l.kid-index l.kids)))
