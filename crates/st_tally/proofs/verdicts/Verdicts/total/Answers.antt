use Rattle.std.proofs.Common.{◌≡◌, ◌+◌, cond, length, get_or, take, refl, sym, ap, subst, ◌∙◌, arith, rules, Bor}
use Rattle.st_tally.specs.declared.marks.Marks.{Marks}
use Rattle.st_tally.specs.inner.Marks.{AreKnown, tallied, verdict_on}
use Rattle.st_tally.proofs.Tallied.{tallied_next, tallied_none, tallied_within}
use Rattle.st_tally.proofs.verdicts.Verdicts.total.Given.{Over}
use Rattle.st_tally.proofs.verdicts.Verdicts.total.Goals.{After-share-sum}
use Rattle.st_tally.proofs.verdicts.Verdicts.total.Goals as goal

-- what is found by one number more
next : (g : Over) (c : After-share-sum g) → c.loop-number.sum + c.share-sum.result
    ≡ tallied (g.J.Judge.judges c.args.judge.now) c.args.self.now.marks.now.labels.items (take (c.loop-number.number + 1) c.args.tally.now)
next g c =
    let judges = g.J.Judge.judges c.args.judge.now in
    let labels = c.args.self.now.marks.now.labels.items in
    let tally = c.args.tally.now in
    let n = c.loop-number.number in
    let long : length tally ≡ 20 = search rules in
    let share : c.share-sum.result ≡ cond (verdict_on judges labels n) (get_or tally n 0) 0 =
    c.share-sum.ensures.share
    ∙ ap (λ j. cond (verdict_on j c.loop-number.self.marks.now.labels.items n) (get_or tally n 0) 0) c.loop-number.invariant.same
    ∙ ap (λ (m : Bor (Marks g.row.A.Denot)). cond (verdict_on judges m.now.labels.items n) (get_or tally n 0) 0) c.loop-number.invariant.marks in
    omega (arith, c.loop-number.invariant.sum, share, tallied_next judges labels tally n (omega (arith, c.loop-number-test.true, long)))

pub loop-number-init : goal.loop-number-init
loop-number-init g c = record {
  marks = refl;
  known = c.requires.known;
  sum = sym (tallied_none (g.J.Judge.judges c.args.judge.now) c.args.self.now.marks.now.labels.items);
  same = refl;
}

pub overflow_add-sum : goal.overflow_add-sum
overflow_add-sum g c =
    let most = tallied_within (g.J.Judge.judges c.args.judge.now) c.args.self.now.marks.now.labels.items c.args.tally.now (c.loop-number.number + 1) in
    omega (arith, next g (goal.at.overflow_add-sum g c).After-share-sum, most, c.requires.fits)

pub loop-number-preserved : goal.loop-number-preserved
loop-number-preserved g c = record {
  marks = c.share-sum.ensures.marks ∙ c.loop-number.invariant.marks;
  known = subst (λ (m : Bor (Marks g.row.A.Denot)). AreKnown (g.J.Judge.judges c.args.judge.now) m.now.labels.items c.share-sum.new.self.found)
      c.loop-number.invariant.marks
      (subst (λ j. AreKnown j c.loop-number.self.marks.now.labels.items c.share-sum.new.self.found) c.loop-number.invariant.same c.share-sum.ensures.known);
  sum = next g (goal.at.loop-number-preserved g c).After-share-sum;
  same = c.share-sum.ensures.same ∙ c.loop-number.invariant.same;
}
