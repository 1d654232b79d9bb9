use Rattle.std.proofs.Common.{take}
use Rattle.std.specs.List.{sum_by}
use Rattle.st_index.specs.inner.Entries.{EntryValue}
use Rattle.st_tally.specs.inner.Sums.{CountsMore, labelled}
use Rattle.st_tally.proofs.label_counts.LabelCounts.put_entries.Given as goal

abbrev pub invariant-loop-entry : goal.invariant-loop-entry
invariant-loop-entry g l = CountsMore l.initial.self l.self (λ judges. sum_by (λ (e : EntryValue g.row.A.Denot). labelled judges e.rows) (take l.entry-index l.entries))
