use Rattle.std.proofs.Common.{length, subst, ◌∙◌, arith, rules}
use Rattle.st_tally.specs.inner.Marks.{IsTested}
use Rattle.st_tally.proofs.ByMarks.{byte_is}
use Rattle.st_tally.proofs.Placing.{there_is}
use Rattle.st_tally.proofs.Tallied.{IsRead, at_most, below_sum, is_read, one_by, sum_set, tallied_by}
use Rattle.st_tally.proofs.Tested.{none_at}
use Rattle.st_tally.proofs.marked.tally_at.Given.{Over}
use Rattle.st_tally.proofs.marked.tally_at.Goals.{After-from-index}
use Rattle.st_tally.proofs.marked.tally_at.Goals as goal

read : (g : Over) (c : After-from-index g) → IsRead c.args.marks.now c.args.at c.from-index.result
read g c = is_read c.args.marks.now c.args.at c.from-index.result (length c.args.entries.now) (search rules, search rules) c.requires.within c.requires.not_more c.from-index.ensures

pub overflow_add-tally : goal.overflow_add-tally
overflow_add-tally g c =
    let r = read g (goal.at.overflow_add-tally g c).After-from-index in
    let some = there_is c.args.entries.now c.args.at c.requires.within in
    let one = one_by c.requires.marked.0 c.args.entries.now c.args.marks.now c.args.at c.from-index.result r some.0 c.requires.marked.1 some.1
    c.args.tally.now c.requires.few c.if-index-tally.true in
    omega (arith, one, below_sum c.args.tally.now c.from-index.result c.if-index-tally.true, c.requires.fits some.0 some.1, c.from.ensures ∙ byte_is _, at_most c.args.inside 1)

pub returns-then-index-tally-clause-count : goal.returns-then-index-tally-clause-count
returns-then-index-tally-clause-count g c = λ labels e are h.
    let r = read g (goal.at.returns-then-index-tally-clause-count g c).After-from-index in
    tallied_by labels c.args.entries.now c.args.marks.now c.args.at c.from-index.result r e are h c.args.tally.now c.requires.few c.if-index-tally.true
    c.args.query.now (g.J.Judge.judges c.args.judge.now) c.args.inside c.requires.tested c.from.result (c.from.ensures ∙ byte_is _)

pub returns-then-index-tally-clause-most : goal.returns-then-index-tally-clause-most
returns-then-index-tally-clause-most g c = λ e h.
    let r = read g (goal.at.returns-then-index-tally-clause-most g c).After-from-index in
    let one = one_by c.requires.marked.0 c.args.entries.now c.args.marks.now c.args.at c.from-index.result r e c.requires.marked.1 h
    c.args.tally.now c.requires.few c.if-index-tally.true in
    omega (arith, one, sum_set c.args.tally.now c.from-index.result c.from.result c.if-index-tally.true, c.from.ensures ∙ byte_is _, at_most c.args.inside 1)

pub returns-then-not-inside-clause-count : goal.returns-then-not-inside-clause-count
returns-then-not-inside-clause-count g c = λ labels e are h.
    let outside = subst (IsTested c.args.query.now c.args.marks.now c.args.at) c.if-not-inside.true c.requires.tested in
    let none = none_at c.args.query.now (g.J.Judge.judges c.args.judge.now) labels c.args.entries.now c.args.marks.now are (search rules, search rules)
    c.requires.not_more c.args.at e h outside in
    omega (arith, none)

pub count_at-requires-clause-fits : goal.count_at-requires-clause-fits
count_at-requires-clause-fits g c = λ e h. omega (arith, c.requires.fits e h)

pub returns-clause-count : goal.returns-clause-count
returns-clause-count g c = λ labels e are h. omega (arith, c.count_at.ensures.count e h)
