use Rattle.std.proofs.Common.{◌≡◌, take}
use Rattle.st_tally.specs.inner.Marks.{AreKnown, tallied}
use Rattle.st_tally.proofs.verdicts.Verdicts.total.Given as goal

abbrev pub invariant-loop-number : goal.invariant-loop-number
invariant-loop-number g l = record {
  marks : l.self.marks ≡ l.initial.self.marks;
  known : AreKnown (g.J.Judge.judges l.initial.judge) l.initial.self.marks.now.labels.items l.self.found;
  sum : l.sum ≡ tallied (g.J.Judge.judges l.initial.judge) l.initial.self.marks.now.labels.items (take l.number l.tally);
  same : g.J.Judge.judges l.judge ≡ g.J.Judge.judges l.initial.judge;
}
