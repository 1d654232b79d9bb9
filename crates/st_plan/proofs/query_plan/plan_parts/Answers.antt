use Rattle.st_plan.proofs.QueryPlans.{next_part}
use Rattle.st_plan.proofs.query_plan.plan_parts.Goals as goal

pub loop-part-preserved : goal.loop-part-preserved
loop-part-preserved g c =
    next_part c.args.budget c.args.parts.now c.loop-part.part-index c.part-item.result c.loop-part.plans c.in_ok-plan_part.field-0 c.push.new.self
    c.loop-part-test.true c.part-item.is c.loop-part.invariant c.in_ok-plan_part.ensures c.in_ok-push.ensures.ok
