-- The plan of a query as a list.
use Rattle.std.specs.Prelude.{ℕ, List, map}
use Rattle.st_key.specs.declared.period.Period.{Period}
use Rattle.st_box.specs.declared.query.Query.{Query}
use Rattle.st_box.specs.Part.{cuts_of}
use Rattle.st_plan.specs.declared.part_plan.PartPlan.{PartPlan}
use Rattle.st_plan.specs.inner.Computing.{ranges_of}

-- For each part of the query its bins and ranges. `law::one_plan` states that it is the one plan that `IsQueryPlan` says, so that the
-- search by which it is computed need not be believed.
unfoldable pub plan_of : {A : Type 0} → Period → Query → ℕ → List (PartPlan A)
plan_of period q budget = map (λ c. record { bin_lo = c.bin_lo; bin_hi = c.bin_hi; ranges = ranges_of c budget }) (cuts_of period q)
