use Rattle.std.proofs.Common.{◌≡◌, length, take}
use Rattle.st_journal_copy.proofs.comparing.are_same.Given as goal

abbrev pub invariant-places : goal.invariant-places
invariant-places l = record { long : length l.ours ≡ length l.theirs; same : take l.at l.ours ≡ take l.at l.theirs }
