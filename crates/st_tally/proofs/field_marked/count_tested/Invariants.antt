use Rattle.std.proofs.Common.{◌≡◌}
use Rattle.st_index.specs.inner.Entries.{EntryValue}
use Rattle.st_index.proofs.Tallying.{SoFar}
use Rattle.st_tally.specs.inner.Marks.{AreKnown}
use Rattle.st_tally.proofs.field_marked.count_tested.Given as goal

abbrev pub invariant-loop-at : goal.invariant-loop-at
invariant-loop-at g l = record {
  far : SoFar (g.F.Fields.query l.fields) (g.J.Judge.judges l.initial.judge) (g.F.Fields.field_of l.fields) (λ (e : EntryValue g.row.A.Denot). e.rows) l.entries l.at l.initial.counts l.counts;
  marks : l.verdicts.marks ≡ l.initial.verdicts.marks;
  known : AreKnown (g.J.Judge.judges l.initial.judge) l.initial.verdicts.marks.now.labels.items l.verdicts.found;
  same : g.J.Judge.judges l.judge ≡ g.J.Judge.judges l.initial.judge;
}
