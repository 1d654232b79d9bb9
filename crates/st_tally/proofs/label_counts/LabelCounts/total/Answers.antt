use Rattle.std.proofs.Common.{◌≡◌, ◌+◌, ◌<◌, length, take, ap, ◌∙◌, arith}
use Rattle.std.proofs.lemmas.List.Sums.{sum_by-take-le}
use Rattle.st_index.proofs.Sums.{sum_all, sum_one_more}
use Rattle.st_tally.specs.inner.Sums.{found, total}
use Rattle.st_tally.proofs.label_counts.LabelCounts.total.Given.{Over}
use Rattle.st_tally.proofs.label_counts.LabelCounts.total.Goals.{After-found-sum}
use Rattle.st_tally.proofs.label_counts.LabelCounts.total.Goals as goal

-- the total with one count more
next : (g : Over) (c : After-found-sum g) → c.loop-count.sum + c.found-sum.result
    ≡ total (g.J.Judge.judges c.args.judge.now) (take (c.loop-count.count-index + 1) c.as_slice-count-items.result.now)
next g c =
    let judges = g.J.Judge.judges c.args.judge.now in
    let below : c.loop-count.count-index < length c.as_slice-count-items.result.now = omega arith in
    let here : c.found-sum.result ≡ found judges c.count-item.result = c.found-sum.ensures.value ∙ ap (λ j. found j c.count-item.result) c.loop-count.invariant.same in
    let more = sum_one_more (found judges) c.as_slice-count-items.result.now c.loop-count.count-index c.count-item.result below c.count-item.is in
    omega (arith, here, more, c.loop-count.invariant.total)

pub overflow_add-sum : goal.overflow_add-sum
overflow_add-sum g c =
    let judges = g.J.Judge.judges c.args.judge.now in
    let most = sum_by-take-le (found judges) c.as_slice-count-items.result.now (c.loop-count.count-index + 1) in
    omega (arith, next g (goal.at.overflow_add-sum g c).After-found-sum, most, ap (total judges) c.as_slice-count-items.ensures.value, c.requires)

pub loop-count-preserved : goal.loop-count-preserved
loop-count-preserved g c = record {
  total = next g (goal.at.loop-count-preserved g c).After-found-sum;
  same = c.found-sum.ensures.same ∙ c.loop-count.invariant.same;
}

pub returns-clause-total : goal.returns-clause-total
returns-clause-total g c =
    let judges = g.J.Judge.judges c.args.judge.now in
    c.loop-count.invariant.total ∙ sum_all (found judges) c.as_slice-count-items.result.now c.loop-count.count-index c.loop-count-test.false ∙ ap (total judges) c.as_slice-count-items.ensures.value
