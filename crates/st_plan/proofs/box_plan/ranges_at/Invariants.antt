use Rattle.std.proofs.Common.{◌≤◌, ◌-◌, ◌^◌}
use Rattle.st_plan.proofs.RangeLemmas.{SoFar}
use Rattle.st_plan.proofs.box_plan.ranges_at.Given as goal

abbrev pub invariant-loop-run : goal.invariant-loop-run
invariant-loop-run g l = SoFar l.zbox l.level l.from l.ranges.items × (l.from ≤ 2 ^ 63)

abbrev pub decreases-loop-run : goal.decreases-loop-run
decreases-loop-run g l = 2 ^ 63 - l.from
