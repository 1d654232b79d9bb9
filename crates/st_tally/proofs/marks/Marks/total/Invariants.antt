use Rattle.std.proofs.Common.{◌≡◌, take}
use Rattle.st_tally.specs.inner.Marks.{tallied}
use Rattle.st_tally.proofs.marks.Marks.total.Given as goal

abbrev pub invariant-loop-number : goal.invariant-loop-number
invariant-loop-number g l = record {
  sum : l.sum ≡ tallied (g.J.Judge.judges l.initial.judge) l.self.labels.items (take l.number l.tally);
  same : g.J.Judge.judges l.judge ≡ g.J.Judge.judges l.initial.judge;
}
