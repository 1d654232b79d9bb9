-- The end of a run, and the least and the greatest address of a cell.
use Rattle.std.specs.Prelude.{ℕ, ◌≡◌, ◌≤◌, ◌+◌, ◌^◌, ◌/◌}
use Rattle.st_box.specs.declared.zbox.ZBox.{ZBox}
use Rattle.st_box.specs.ZBox.{IsInside}

-- the numbers from `from` to m are in the set, and the next is not
pub record IsRunTo (P : ℕ → Type 0) (from m : ℕ) : Type 0 where
  pub ahead : from ≤ m
  pub within : (a : ℕ) → from ≤ a → a ≤ m → P a
  pub after : P (m + 1) → ⊥

-- m is the least address of the box whose bits above the lowest k are p
pub record IsLeastInCell (b : ZBox) (k p m : ℕ) : Type 0 where
  pub inside : IsInside b m
  pub prefix : m / 2 ^ k ≡ p
  pub least : (a : ℕ) → IsInside b a → a / 2 ^ k ≡ p → m ≤ a

-- m is the greatest one
pub record IsGreatestInCell (b : ZBox) (k p m : ℕ) : Type 0 where
  pub inside : IsInside b m
  pub prefix : m / 2 ^ k ≡ p
  pub greatest : (a : ℕ) → IsInside b a → a / 2 ^ k ≡ p → a ≤ m
