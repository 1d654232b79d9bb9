use Rattle.std.proofs.Common.{◌≡◌}
use Rattle.st_index.specs.inner.Entries.{EntryValue}
use Rattle.st_index.proofs.Tallying.{SoFar}
use Rattle.st_index.proofs.field_counting.count.Given as goal

abbrev pub invariant-loop-entry : goal.invariant-loop-entry
invariant-loop-entry g l = record {
  far : SoFar (g.F.Fields.query l.fields) (g.J.Judge.judges l.initial.judge) (g.F.Fields.field_of l.fields) (λ (e : EntryValue g.row.A.Denot). e.rows)
      l.entries l.entry-index l.initial.counts l.counts;
  same : g.J.Judge.judges l.judge ≡ g.J.Judge.judges l.initial.judge;
}
