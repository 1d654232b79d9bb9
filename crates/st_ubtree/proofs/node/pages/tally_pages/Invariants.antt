use Rattle.std.proofs.Common.{◌≡◌, ◌+◌, ◌≤◌, length, take}
use Rattle.std.specs.List.{sum, sum_by}
use Rattle.st_index.specs.inner.Counting.{count_of}
use Rattle.st_tally.specs.inner.Pages.{NodeValue, rows_of_pages}
use Rattle.st_tally.specs.inner.Marks.{MakeUp}
use Rattle.st_ubtree.proofs.node.pages.tally_pages.Given as goal

abbrev pub invariant-loop-at : goal.invariant-loop-at
invariant-loop-at g l = record {
  count : MakeUp (g.J.Judge.judges l.initial.judge) l.marks.labels.items l.rest
      (sum_by (λ (v : NodeValue g.row.A.Denot). count_of l.query (g.J.Judge.judges l.initial.judge) (rows_of_pages v.pages)) (take l.at l.kids)) l.initial.tally l.tally;
  most : sum l.tally ≤ sum l.initial.tally + sum_by (λ (v : NodeValue g.row.A.Denot). length (rows_of_pages v.pages)) (take l.at l.kids);
  same : g.J.Judge.judges l.judge ≡ g.J.Judge.judges l.initial.judge;
}
