use Rattle.std.proofs.Common.{◌≡◌}
use Rattle.st_index.proofs.Tallying.{SoFar}
use Rattle.st_tally.specs.inner.Pages.{NodeValue, rows_of_pages}
use Rattle.st_ubtree.proofs.node.Node.+count_fields.Given as goal

abbrev pub decreases-count_fields : goal.decreases-count_fields
decreases-count_fields g l = goal.size-count_fields g l

abbrev pub invariant-loop-kid : goal.invariant-loop-kid
invariant-loop-kid g l = record {
  far : SoFar (g.F.Fields.query l.fields) (g.J.Judge.judges l.initial.judge) (g.F.Fields.field_of l.fields)
      (λ (v : NodeValue g.row.A.Denot). rows_of_pages v.pages) l.kid-items l.kid-index l.initial.counts l.counts;
  same : g.J.Judge.judges l.judge ≡ g.J.Judge.judges l.initial.judge;
}
