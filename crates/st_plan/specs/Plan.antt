-- The plan of a box.
use Rattle.std.specs.Prelude.{ℕ, ◌<◌, ◌≤◌, ◌+◌, ◌*◌, ◌^◌, ◌↔◌, List, length, IsTrue}
use Rattle.std.specs.List.{AllZip}
use Rattle.st_box.specs.declared.zbox.ZBox.{ZBox}
use Rattle.st_bigmin.specs.declared.run.Run.{Run}
use Rattle.st_box.specs.ZBox.{IsInside}
use Rattle.st_plan.specs.declared.range.Range.{Range}
use Rattle.st_plan.specs.Coarse.{InCoarse, Runs, IsTooFine}

-- from the least to the greatest address of the box among those that the run covers
pub record IsRangeOf (b : ZBox) (level : ℕ) (run : Run) (range : Range) : Type 0 where
  pub lo_inside : IsInside b range.lo
  pub lo_covered : run.first * 2 ^ (3 * level) ≤ range.lo
  pub lo_least : (a : ℕ) → IsInside b a → run.first * 2 ^ (3 * level) ≤ a → range.lo ≤ a
  pub hi_inside : IsInside b range.hi
  pub hi_covered : range.hi < (run.last + 1) * 2 ^ (3 * level)
  pub hi_greatest : (a : ℕ) → IsInside b a → a < (run.last + 1) * 2 ^ (3 * level) → a ≤ range.hi
  pub exact : IsTrue range.exact ↔ ((a : ℕ) → range.lo ≤ a → a ≤ range.hi → IsInside b a)

-- the ranges of the least level whose runs are within the budget
pub record IsPlanOf (b : ZBox) (budget : ℕ) (xs : List Range) : Type 0 where
  pub level : ℕ
  pub runs : List Run
  pub all_runs : Runs (InCoarse b level) 0 runs
  pub in_budget : length runs ≤ budget
  pub least : (finer : ℕ) → finer < level → IsTooFine b budget finer
  pub ranges : AllZip (IsRangeOf b level) runs xs
