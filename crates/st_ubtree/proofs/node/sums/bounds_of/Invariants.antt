use Rattle.std.proofs.Common.{take}
use Rattle.std.specs.List.{All}
use Rattle.st_index.specs.declared.row.Row.{Row}
use Rattle.st_tally.specs.inner.Pages.{rows_of_pages}
use Rattle.st_ubtree.specs.inner.Kids.{pages_of}
use Rattle.st_tally.specs.inner.Sums.{IsWithin}
use Rattle.st_ubtree.proofs.node.sums.bounds_of.Given as goal

abbrev pub invariant-loop-kid : goal.invariant-loop-kid
invariant-loop-kid g l = All (λ (row : Row g.row.A.Denot). IsWithin l.bounds row.point) (rows_of_pages (pages_of (take l.kid-index l.kids)))
