-- The addresses and the keys that ranges hold.
use Rattle.std.specs.Prelude.{ℕ, ◌≤◌, ◌+◌, ◌⊎◌, List, [], ◌∷◌}
use Rattle.st_plan.specs.declared.range.Range.{Range}
use Rattle.st_key.specs.declared.key.Key.{Key}
use Rattle.st_plan.specs.declared.part_plan.PartPlan.{PartPlan}

-- the ranges rise from a number on, and do not meet
abbrev pub Rise : ℕ → List Range → Type 0
Rise from [] = Unit {0}
Rise from (x ∷ xs) = (from ≤ x.lo) × (x.lo ≤ x.hi) × Rise (x.hi + 1) xs

-- one of the ranges holds the address
abbrev pub Hold : List Range → ℕ → Type 0
Hold [] a = ⊥
Hold (x ∷ xs) a = ((x.lo ≤ a) × (a ≤ x.hi)) ⊎ Hold xs a

-- the key is in a range of its bin
abbrev pub HoldKey : {A : Type 0} → List (PartPlan A) → Key → Type 0
HoldKey [] k = ⊥
HoldKey (x ∷ xs) k = ((x.bin_lo ≤ k.bin) × (k.bin ≤ x.bin_hi) × Hold x.ranges k.address) ⊎ HoldKey xs k
