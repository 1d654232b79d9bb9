-- How often a disk failed or refused.
use Rattle.std.specs.Prelude.{◌≤◌, ◌+◌, ◌-◌, ◌^◌, ℕ, min}

-- the count rose, unless it is at the top of a `u64`
abbrev pub FaultsRise : ℕ → ℕ → Type 0
FaultsRise old new = min (old + 1) (2 ^ 64 - 1) ≤ new
