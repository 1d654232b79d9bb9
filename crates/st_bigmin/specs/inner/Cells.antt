-- A stage of the code, which no reader has to believe: the search for the end of a run, cell by cell.
use Rattle.std.specs.Prelude.{ℕ, ◌<◌, ◌≤◌, ◌+◌, ◌-◌, ◌*◌, ◌^◌}
use Rattle.st_key.specs.Order.{Spot}
use Rattle.st_box.specs.Corner.{IsWithin, spot_at}

-- the place of the address is between these two
pub record IsBetween (s t : Spot) (a : ℕ) : Type 0 where
  pub from_first : IsWithin s (spot_at a)
  pub to_last : IsWithin (spot_at a) t

-- so are the first and the last address whose bits above the lowest k are p
pub record HasCell (s t : Spot) (k p : ℕ) : Type 0 where
  pub starts : IsWithin s (spot_at (p * 2 ^ k))
  pub ends : IsWithin (spot_at (p * 2 ^ k + (2 ^ k - 1))) t

-- m is the first number from `from` on that is not between
pub record IsFirstOutside (s t : Spot) (from m : ℕ) : Type 0 where
  pub ahead : from ≤ m
  pub before : (a : ℕ) → from ≤ a → a < m → IsBetween s t a
  pub outside : IsBetween s t m → ⊥
