use Rattle.std.proofs.Common.{◌≡◌, drop}
use Rattle.st_plan.specs.QueryPlan.{is_exact}
use Rattle.st_plan.proofs.part_plan.Plan.is_exact.Given as goal

-- a part holds the key exactly if one of those that are left does
abbrev pub invariant-loop-part : goal.invariant-loop-part
invariant-loop-part g l = is_exact (drop l.part-index l.self) l.key ≡ is_exact l.self l.key
