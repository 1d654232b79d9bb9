use Rattle.std.proofs.Common.{◌≡◌, take}
use Rattle.st_tally.specs.inner.Sums.{total}
use Rattle.st_tally.proofs.label_counts.LabelCounts.total.Given as goal

abbrev pub invariant-loop-count : goal.invariant-loop-count
invariant-loop-count g l = record {
  total : l.sum ≡ total (g.J.Judge.judges l.initial.judge) (take l.count-index l.count-items);
  same : g.J.Judge.judges l.judge ≡ g.J.Judge.judges l.initial.judge;
}
