use Rattle.std.proofs.Common.{◌≡◌, [], ◌∷◌}
use Rattle.st_index.specs.declared.row.Row.{Row}
use Rattle.st_index.proofs.Tallying.{SoFar}
use Rattle.st_index.proofs.field_counting.count_rows.Given as goal

abbrev pub invariant-loop-row : goal.invariant-loop-row
invariant-loop-row g l = record {
  far : SoFar (g.F.Fields.query l.fields) (g.J.Judge.judges l.initial.judge) (g.F.Fields.field_of l.fields) (λ (r : Row g.row.A.Denot). r ∷ []) l.rows l.row-index l.initial.counts l.counts;
  same : g.J.Judge.judges l.judge ≡ g.J.Judge.judges l.initial.judge;
}
