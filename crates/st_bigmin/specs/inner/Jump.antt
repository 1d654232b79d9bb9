-- The neighbours of a number among the addresses of a box.
use Rattle.std.specs.Prelude.{ℕ, ◌<◌, ◌≤◌}
use Rattle.st_box.specs.declared.zbox.ZBox.{ZBox}
use Rattle.st_box.specs.ZBox.{IsInside}

pub record IsLeastAbove (b : ZBox) (z m : ℕ) : Type 0 where
  pub above : z < m
  pub inside : IsInside b m
  pub least : (a : ℕ) → IsInside b a → z < a → m ≤ a

pub record IsGreatestBelow (b : ZBox) (z m : ℕ) : Type 0 where
  pub below : m < z
  pub inside : IsInside b m
  pub greatest : (a : ℕ) → IsInside b a → a < z → a ≤ m
