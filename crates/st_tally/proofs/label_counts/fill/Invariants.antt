use Rattle.std.proofs.Common.{◌≡◌, Bool}
use Rattle.st_text.specs.Texts.{Text}
use Rattle.st_tally.specs.inner.Sums.{total}
use Rattle.st_tally.proofs.label_counts.fill.Given as goal

abbrev pub invariant-loop : goal.invariant-loop
invariant-loop g l = (judges : Text → Bool) → total judges l.counts.items ≡ total judges l.initial.counts.items
