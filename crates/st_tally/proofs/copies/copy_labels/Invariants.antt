use Rattle.std.proofs.Common.{◌≡◌, take}
use Rattle.st_tally.proofs.copies.copy_labels.Given as goal

abbrev pub invariant-loop-label : goal.invariant-loop-label
invariant-loop-label g l = l.copies.items ≡ take l.label-index l.labels.items
