-- Runs: the maximal intervals of consecutive numbers in a set.
use Rattle.std.specs.Prelude.{ℕ, ◌<◌, ◌≤◌, ◌+◌}
use Rattle.st_bigmin.specs.declared.run.Run.{Run}

-- r is the first run of the set P that is wholly at or after `from`
pub record IsNextRun (P : ℕ → Type 0) (from : ℕ) (r : Run) : Type 0 where
  pub ahead : from ≤ r.first
  pub before : (a : ℕ) → from ≤ a → a < r.first → P a → ⊥
  pub ordered : r.first ≤ r.last
  pub within : (a : ℕ) → r.first ≤ a → a ≤ r.last → P a
  pub after : P (r.last + 1) → ⊥
