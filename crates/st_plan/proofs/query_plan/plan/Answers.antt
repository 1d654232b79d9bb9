use Rattle.std.proofs.Common.{rules, subst, arith}
use Rattle.st_plan.specs.QueryPlan.{IsQueryPlan}
use Rattle.st_plan.specs.inner.Levels.{PartPlans}
use Rattle.st_plan.proofs.QueryPlans.{rising, in_budget, whole, exact, only_query_plan}
use Rattle.st_plan.proofs.PlanOfLemmas.{is_query_plan_of}
use Rattle.st_plan.proofs.query_plan.plan.Given.{Over}
use Rattle.st_plan.proofs.query_plan.plan.Goals as goal

plans : (g : Over) (c : goal.In_ok-parts g) → PartPlans c.args.budget c.parts-parts.result.items c.in_ok-parts.parts
plans g c = subst (λ v. PartPlans c.args.budget v c.in_ok-parts.parts) c.as_slice.ensures.value c.in_ok-parts.ensures

is_plan : (g : Over) (c : goal.In_ok-parts g) → IsQueryPlan c.args.period c.args.query.now c.args.budget c.in_ok-parts.parts
is_plan g c = record { parts = c.parts-parts.result.items; cuts = c.parts-parts.ensures.cuts; plans = plans g c }

pub returns-clause-value : goal.returns-clause-value
returns-clause-value g c =
    only_query_plan c.args.period c.args.query.now c.args.budget c.in_ok-parts.parts _ (is_plan g c)
    (is_query_plan_of _ c.args.period c.args.query.now c.args.budget (omega (arith, c.if-budget-eq0.false)) c.parts-parts.result.items c.parts-parts.ensures.cuts)

pub returns-clause-plan : goal.returns-clause-plan
returns-clause-plan g c = is_plan g c

pub returns-clause-only : goal.returns-clause-only
returns-clause-only g c xs other = only_query_plan c.args.period c.args.query.now c.args.budget xs c.in_ok-parts.parts other (is_plan g c)

pub returns-clause-rising : goal.returns-clause-rising
returns-clause-rising g c = rising c.args.budget c.parts-parts.result.items c.in_ok-parts.parts (plans g c)

pub returns-clause-in_budget : goal.returns-clause-in_budget
returns-clause-in_budget g c = in_budget c.args.budget c.parts-parts.result.items c.in_ok-parts.parts (plans g c)

pub returns-clause-whole : goal.returns-clause-whole
returns-clause-whole g c k has = whole c.args.budget c.parts-parts.result.items c.in_ok-parts.parts k (plans g c) ((c.parts-parts.ensures.whole k).1 has)

pub returns-clause-exact : goal.returns-clause-exact
returns-clause-exact g c k held = (c.parts-parts.ensures.whole k).0 (exact c.args.budget c.parts-parts.result.items c.in_ok-parts.parts k (plans g c) held)

pub returns-clause-budget : goal.returns-clause-budget
returns-clause-budget g c = search rules
