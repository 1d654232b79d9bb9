use Rattle.std.proofs.Common.{◌≡◌, ℕ, ◌<◌, IsFalse, false, get_or}
use Rattle.st_tally.proofs.testing.has_some.Given as goal

abbrev pub invariant-loop-at : goal.invariant-loop-at
invariant-loop-at l = IsFalse l.some → (i : ℕ) → i < l.at → get_or l.tested i false ≡ false
