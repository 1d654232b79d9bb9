-- A stage of the code, which no reader has to believe: the search for the level, the ranges of a level, and lists of them.
use Rattle.std.specs.Prelude.{ℕ, ◌≡◌, ◌<◌, ◌≤◌, ◌+◌, ◌⊎◌, List, [], ◌∷◌, length, IsTrue}
use Rattle.std.specs.List.{AllZip}
use Rattle.st_box.specs.declared.part.Part.{Part}
use Rattle.st_box.specs.declared.zbox.ZBox.{ZBox}
use Rattle.st_bigmin.specs.declared.run.Run.{Run}
use Rattle.st_bigmin.specs.Run.{IsNextRun}
use Rattle.st_plan.specs.declared.part_plan.PartPlan.{PartPlan}
use Rattle.st_plan.specs.declared.range.Range.{Range}
use Rattle.st_plan.specs.Coarse.{InCoarse, Runs}
use Rattle.st_plan.specs.Plan.{IsRangeOf}
use Rattle.st_plan.specs.QueryPlan.{IsPartPlan}

-- these are the first runs of the set from a number on, up to the number before end
abbrev pub AreFirstRuns : (ℕ → Type 0) → ℕ → List Run → ℕ → Type 0
AreFirstRuns P from [] end = from ≡ end
AreFirstRuns P from (r ∷ rs) end = IsNextRun P from r × AreFirstRuns P (r.last + 1) rs end

-- the coarse box of this level has no more runs than the budget
pub record HasFewRuns (b : ZBox) (level budget : ℕ) : Type 0 where
  pub runs : List Run
  pub all_runs : Runs (InCoarse b level) 0 runs
  pub few : length runs ≤ budget

-- it has more
pub record HasManyRuns (b : ZBox) (level budget : ℕ) : Type 0 where
  pub runs : List Run
  pub end : ℕ
  pub begins : AreFirstRuns (InCoarse b level) 0 runs end
  pub many : budget < length runs

-- each run has its range
abbrev pub Ranges : ZBox → ℕ → List Run → List Range → Type 0
Ranges b level = AllZip (IsRangeOf b level)

-- each part has its plan
abbrev pub PartPlans : {A : Type 0} → ℕ → List Part → List (PartPlan A) → Type 0
PartPlans budget = AllZip (IsPartPlan budget)

-- an exact range holds the address
abbrev pub HoldExactly : List Range → ℕ → Type 0
HoldExactly [] a = ⊥
HoldExactly (x ∷ xs) a = (IsTrue x.exact × (x.lo ≤ a) × (a ≤ x.hi)) ⊎ HoldExactly xs a

-- these are the ranges of all runs of the level
pub record AreRangesAt (b : ZBox) (level : ℕ) (xs : List Range) : Type 0 where
  pub runs : List Run
  pub all_runs : Runs (InCoarse b level) 0 runs
  pub ranges : Ranges b level runs xs
