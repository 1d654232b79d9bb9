-- The plan of a query.
use Rattle.std.specs.Prelude.{ℕ, ◌≡◌, List, map, Bool, ◌&&◌, nat_le}
use Rattle.std.specs.List.{AllZip, list_any}
use Rattle.st_key.specs.declared.key.Key.{Key}
use Rattle.st_key.specs.declared.period.Period.{Period}
use Rattle.st_box.specs.declared.part.Part.{Part}
use Rattle.st_box.specs.declared.query.Query.{Query}
use Rattle.st_box.specs.Part.{cut_of, cuts_of}
use Rattle.st_plan.specs.declared.part_plan.PartPlan.{PartPlan}
use Rattle.st_plan.specs.Plan.{IsPlanOf}
use Rattle.st_plan.specs.Range.{is_exact_in}

-- the part's bins, and the plan of its box
pub record IsPartPlan {A : Type 0} (budget : ℕ) (p : Part) (x : PartPlan A) : Type 0 where
  pub same_lo : x.bin_lo ≡ p.bin_lo
  pub same_hi : x.bin_hi ≡ p.bin_hi
  pub ranges : IsPlanOf p.zbox budget x.ranges

-- the plans of the parts of the query
pub record IsQueryPlan {A : Type 0} (period : Period) (q : Query) (budget : ℕ) (xs : List (PartPlan A)) : Type 0 where
  pub parts : List Part
  pub cuts : map cut_of parts ≡ cuts_of period q
  pub plans : AllZip (IsPartPlan budget) parts xs

-- whether the key is in an exact range of its bin
abbrev pub is_exact : {A : Type 0} → List (PartPlan A) → Key → Bool
is_exact xs k = list_any (λ x. nat_le x.bin_lo k.bin && nat_le k.bin x.bin_hi && list_any (is_exact_in k.address) x.ranges) xs
