use Rattle.std.proofs.Common.{◌≡◌, drop}
use Rattle.std.specs.List.{list_any}
use Rattle.st_plan.specs.Range.{is_exact_in}
use Rattle.st_plan.proofs.part_plan.PartPlan.is_exact.Given as goal

-- an exact range holds the address if one of those that are left does
abbrev pub invariant-loop-range : goal.invariant-loop-range
invariant-loop-range g l = list_any (is_exact_in l.address) (drop l.range-index l.self.ranges) ≡ list_any (is_exact_in l.address) l.self.ranges
