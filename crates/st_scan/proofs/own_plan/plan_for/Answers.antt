use Rattle.st_scan.proofs.own_plan.plan_for.Goals as goal

pub returns-in-Ok : goal.returns-in-Ok
returns-in-Ok g c = c.in-Ok.ensures.exact
