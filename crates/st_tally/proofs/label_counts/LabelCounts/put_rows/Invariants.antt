use Rattle.std.proofs.Common.{take}
use Rattle.st_tally.specs.inner.Sums.{CountsMore, labelled}
use Rattle.st_tally.proofs.label_counts.LabelCounts.put_rows.Given as goal

abbrev pub invariant-loop-row : goal.invariant-loop-row
invariant-loop-row g l = CountsMore l.initial.self l.self (λ judges. labelled judges (take l.row-index l.rows))
