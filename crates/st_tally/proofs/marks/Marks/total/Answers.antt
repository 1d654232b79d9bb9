use Rattle.std.proofs.Common.{◌≡◌, ◌+◌, cond, get_or, take, refl, sym, ap, ◌∙◌, arith}
use Rattle.st_tally.specs.inner.Marks.{tallied, verdict_on}
use Rattle.st_tally.proofs.Tallied.{tallied_all, tallied_next, tallied_none, tallied_within}
use Rattle.st_tally.proofs.marks.Marks.total.Given.{Over}
use Rattle.st_tally.proofs.marks.Marks.total.Goals.{After-share-sum}
use Rattle.st_tally.proofs.marks.Marks.total.Goals as goal

-- what is found by one number more
next : (g : Over) (c : After-share-sum g) → c.loop-number.sum + c.share-sum.result
    ≡ tallied (g.J.Judge.judges c.args.judge.now) c.args.self.now.labels.items (take (c.loop-number.number + 1) c.args.tally.now)
next g c =
    let judges = g.J.Judge.judges c.args.judge.now in
    let labels = c.args.self.now.labels.items in
    let tally = c.args.tally.now in
    let n = c.loop-number.number in
    let share : c.share-sum.result ≡ cond (verdict_on judges labels n) (get_or tally n 0) 0 =
    c.share-sum.ensures.share ∙ ap (λ j. cond (verdict_on j labels n) (get_or tally n 0) 0) c.loop-number.invariant.same in
    omega (arith, c.loop-number.invariant.sum, share, tallied_next judges labels tally n (omega (arith, c.loop-number-test.true)))

pub loop-number-init : goal.loop-number-init
loop-number-init g c = record {
  sum = sym (tallied_none (g.J.Judge.judges c.args.judge.now) c.args.self.now.labels.items);
  same = refl;
}

pub overflow_add-sum : goal.overflow_add-sum
overflow_add-sum g c =
    let most = tallied_within (g.J.Judge.judges c.args.judge.now) c.args.self.now.labels.items c.args.tally.now (c.loop-number.number + 1) in
    omega (arith, next g (goal.at.overflow_add-sum g c).After-share-sum, most, c.requires.fits)

pub loop-number-preserved : goal.loop-number-preserved
loop-number-preserved g c = record {
  sum = next g (goal.at.loop-number-preserved g c).After-share-sum;
  same = c.share-sum.ensures.same ∙ c.loop-number.invariant.same;
}

pub returns-clause-total : goal.returns-clause-total
returns-clause-total g c =
    c.loop-number.invariant.sum ∙ tallied_all (g.J.Judge.judges c.args.judge.now) c.args.self.now.labels.items c.args.tally.now c.loop-number.number
    (omega (arith, c.loop-number-test.false))
