use Rattle.std.proofs.Common.{◌+◌, sym, subst, arith, rules}
use Rattle.st_plan.proofs.RangeLemmas.{SoFar, so_far-next, so_far-end}
use Rattle.st_plan.proofs.box_plan.ranges_at.Goals as goal

pub range_of-requires-clause-first : goal.range_of-requires-clause-first
range_of-requires-clause-first g c =
    let n = c.in-Some.ensures.some in
    (c.coarse-whole.ensures.inside c.in-Some.run'.first).0 (n.within c.in-Some.run'.first (omega arith) n.ordered)

pub range_of-requires-clause-last : goal.range_of-requires-clause-last
range_of-requires-clause-last g c =
    let n = c.in-Some.ensures.some in
    (c.coarse-whole.ensures.inside c.in-Some.run'.last).0 (n.within c.in-Some.run'.last n.ordered (omega arith))

pub loop-run-preserved : goal.loop-run-preserved
loop-run-preserved g c = (
  subst (SoFar c.args.zbox.now c.args.level (c.in-Some.run'.last + 1)) (sym c.in_ok-push.ensures.items)
      (so_far-next c.args.zbox.now c.args.level c.loop-run.from c.loop-run.ranges.items c.coarse-whole.result c.in-Some.run' c.range_of.result
      c.coarse-whole.ensures.inside c.loop-run.invariant.0 c.in-Some.ensures.some c.range_of.ensures),
  omega (arith, c.in-Some.ensures.in_range),
)

pub returns : goal.returns
returns g c =
    so_far-end c.args.zbox.now c.args.level c.loop-run.from c.loop-run.ranges.items c.coarse-whole.result c.coarse-whole.ensures.inside
    c.loop-run.invariant.0 (search rules)
