use Rattle.st_plan.specs.Plan.{IsPlanOf}
use Rattle.st_plan.proofs.RangeLemmas.{plan_of, rise, in_budget, hold}
use Rattle.st_plan.proofs.RangeLemmas as ranges
use Rattle.st_plan.proofs.QueryPlans.{exactly}
use Rattle.st_plan.proofs.OnlyPlan.{only_plan}
use Rattle.st_plan.proofs.box_plan.plan_box.Given.{Over}
use Rattle.st_plan.proofs.box_plan.plan_box.Goals as goal

is_plan : (g : Over) (c : goal.In_ok-ranges g) → IsPlanOf c.args.zbox.now c.args.budget c.in_ok-ranges.ranges.items
is_plan g c = plan_of c.args.zbox.now c.args.budget c.level_within-level.result c.in_ok-ranges.ranges.items c.level_within-level.ensures.fits c.level_within-level.ensures.least c.in_ok-ranges.ensures

pub returns-clause-plan : goal.returns-clause-plan
returns-clause-plan g c = is_plan g c

pub returns-clause-rising : goal.returns-clause-rising
returns-clause-rising g c = rise c.args.zbox.now c.args.budget c.in_ok-ranges.ranges.items (is_plan g c)

pub returns-clause-in_budget : goal.returns-clause-in_budget
returns-clause-in_budget g c = in_budget c.args.zbox.now c.args.budget c.in_ok-ranges.ranges.items (is_plan g c)

pub returns-clause-whole : goal.returns-clause-whole
returns-clause-whole g c = hold c.args.zbox.now c.args.budget c.in_ok-ranges.ranges.items (is_plan g c)

pub returns-clause-exact : goal.returns-clause-exact
returns-clause-exact g c a held = ranges.exactly c.args.zbox.now c.args.budget c.in_ok-ranges.ranges.items (is_plan g c) a (exactly c.in_ok-ranges.ranges.items a held)

pub returns-clause-only : goal.returns-clause-only
returns-clause-only g c xs other = only_plan c.args.zbox.now c.args.budget xs c.in_ok-ranges.ranges.items other (is_plan g c)
