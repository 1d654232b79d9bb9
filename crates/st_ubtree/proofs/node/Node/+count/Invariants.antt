use Rattle.std.proofs.Common.{◌≡◌, take}
use Rattle.std.specs.List.{sum_by}
use Rattle.st_index.specs.inner.Counting.{count_of}
use Rattle.st_tally.specs.inner.Pages.{NodeValue, rows_of_pages}
use Rattle.st_ubtree.proofs.node.Node.+count.Given as goal

abbrev pub decreases-count : goal.decreases-count
decreases-count g l = goal.size-count g l

abbrev pub invariant-loop-kid : goal.invariant-loop-kid
invariant-loop-kid g l = record {
  sum : l.sum ≡ sum_by (λ (v : NodeValue g.row.A.Denot). count_of l.query (g.J.Judge.judges l.initial.judge) (rows_of_pages v.pages)) (take l.kid-index l.kid-items);
  same : g.J.Judge.judges l.judge ≡ g.J.Judge.judges l.initial.judge;
}
