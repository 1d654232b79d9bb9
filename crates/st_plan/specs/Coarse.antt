-- The coarse box of a box, and its runs.
use Rattle.std.specs.Prelude.{ℕ, ◌<◌, ◌≤◌, ◌+◌, ◌/◌, ◌^◌, List, [], ◌∷◌, length}
use Rattle.st_key.specs.Order.{Spot}
use Rattle.st_box.specs.declared.zbox.ZBox.{ZBox}
use Rattle.st_bigmin.specs.declared.run.Run.{Run}
use Rattle.st_box.specs.Corner.{IsWithin, spot_at}
use Rattle.st_box.specs.ZBox.{first_of, last_of}
use Rattle.st_bigmin.specs.Run.{IsNextRun}

abbrev pub coarse_spot : ℕ → Spot → Spot
coarse_spot level s = record { x = s.x / 2 ^ level; y = s.y / 2 ^ level; offset = s.offset / 2 ^ level }

-- the address is that of a place in the box whose bounds are those of b divided by 2^level
pub record InCoarse (b : ZBox) (level a : ℕ) : Type 0 where
  pub is_address : a < 2 ^ 63
  pub from_first : IsWithin (coarse_spot level (first_of b)) (spot_at a)
  pub to_last : IsWithin (spot_at a) (coarse_spot level (last_of b))

-- these are the runs of the set from a number on, all of them, in rising order
abbrev pub Runs : (ℕ → Type 0) → ℕ → List Run → Type 0
Runs P from [] = (a : ℕ) → from ≤ a → P a → ⊥
Runs P from (r ∷ rs) = IsNextRun P from r × Runs P (r.last + 1) rs

-- however its runs are listed, they are more than the budget
abbrev pub IsTooFine : ZBox → ℕ → ℕ → Type 0
IsTooFine b budget level = (runs : List Run) → Runs (InCoarse b level) 0 runs → budget < length runs
