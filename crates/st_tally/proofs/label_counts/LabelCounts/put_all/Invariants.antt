use Rattle.std.proofs.Common.{take}
use Rattle.st_tally.specs.inner.Sums.{CountsMore, total}
use Rattle.st_tally.proofs.label_counts.LabelCounts.put_all.Given as goal

abbrev pub invariant-loop-other : goal.invariant-loop-other
invariant-loop-other g l = CountsMore l.initial.self l.self (λ judges. total judges (take l.other-index l.other-items))
