use Rattle.std.proofs.Common.{take}
use Rattle.st_plan.specs.inner.Levels.{PartPlans}
use Rattle.st_plan.proofs.query_plan.plan_parts.Given as goal

-- the parts that have come have their plans
abbrev pub invariant-loop-part : goal.invariant-loop-part
invariant-loop-part g l = PartPlans l.budget (take l.part-index l.parts) l.plans
