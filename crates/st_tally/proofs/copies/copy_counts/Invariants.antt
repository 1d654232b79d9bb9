use Rattle.std.proofs.Common.{◌≡◌, take}
use Rattle.st_tally.proofs.copies.copy_counts.Given as goal

abbrev pub invariant-loop-count : goal.invariant-loop-count
invariant-loop-count g l = l.copies.items ≡ take l.count-index l.counts.items
