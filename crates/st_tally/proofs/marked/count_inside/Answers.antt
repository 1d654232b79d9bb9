use Rattle.std.proofs.Common.{◌+◌, ◌<◌, List, length, take, subst, ◌∙◌, arith}
use Rattle.std.specs.List.{sum_by}
use Rattle.st_text.specs.Texts.{Text}
use Rattle.st_index.specs.inner.Counting.{count_of}
use Rattle.st_index.specs.inner.Entries.{EntryValue}
use Rattle.st_tally.specs.inner.Marks.{AreMarks, MakeUp}
use Rattle.st_tally.proofs.Placing.{there_is}
use Rattle.st_tally.proofs.Tallied.{counted_all, counted_fits, counted_next, most_all, most_fits, most_next}
use Rattle.st_tally.proofs.marked.count_inside.Given.{Over}
use Rattle.st_tally.proofs.marked.count_inside.Goals.{After-tally_inside_at-count}
use Rattle.st_tally.proofs.marked.count_inside.Goals as goal

-- what is counted with one entry more
next : (g : Over) (c : After-tally_inside_at-count g) (labels : List Text) → AreMarks labels c.args.entries.now c.args.marks.now
    → MakeUp (g.J.Judge.judges c.args.judge.now) labels (c.loop-at.count + c.tally_inside_at-count.result)
    (sum_by (λ (e : EntryValue g.row.A.Denot). count_of c.args.query.now (g.J.Judge.judges c.args.judge.now) e.rows) (take (c.loop-at.at + 1) c.args.entries.now))
    c.args.tally.now c.tally_inside_at-count.new.tally
next g c labels are =
    let below : c.loop-at.at < length c.args.entries.now = omega (arith, c.loop-at-test.true, c.loop-at.auto.at-end) in
    let some = there_is c.args.entries.now c.loop-at.at below in
    counted_next (λ (e : EntryValue g.row.A.Denot). e.rows) c.args.entries.now c.loop-at.at c.args.query.now (g.J.Judge.judges c.args.judge.now) labels some.0
    c.loop-at.count c.tally_inside_at-count.result c.args.tally.now c.loop-at.tally c.tally_inside_at-count.new.tally below some.1.1 (c.loop-at.invariant.count labels are)
    (subst (λ j. MakeUp j labels c.tally_inside_at-count.result (count_of c.args.query.now j some.0.rows) c.loop-at.tally c.tally_inside_at-count.new.tally)
    c.loop-at.invariant.same (c.tally_inside_at-count.ensures.count labels some.0 are some.1))

pub tally_inside_at-count-requires-clause-fits : goal.tally_inside_at-count-requires-clause-fits
tally_inside_at-count-requires-clause-fits g c = λ e h.
    most_fits (λ (x : EntryValue g.row.A.Denot). x.rows) c.args.entries.now c.loop-at.at e _ _ 18446744073709551616 h.0 h.1 c.loop-at.invariant.most c.requires.fits

pub overflow_add-count : goal.overflow_add-count
overflow_add-count g c =
    let made = next g (goal.at.overflow_add-count g c).After-tally_inside_at-count c.requires.marked.0 c.requires.marked.1 in
    let few = counted_fits (λ (x : EntryValue g.row.A.Denot). x.rows) c.args.entries.now (c.loop-at.at + 1) c.args.query.now
    (g.J.Judge.judges c.args.judge.now) c.requires.marked.0 (c.loop-at.count + c.tally_inside_at-count.result) 18446744073709551616
    c.args.tally.now c.tally_inside_at-count.new.tally made c.requires.fits in
    omega (arith, few)

pub loop-at-preserved : goal.loop-at-preserved
loop-at-preserved g c =
    let below : c.loop-at.at < length c.args.entries.now = omega (arith, c.loop-at-test.true, c.loop-at.auto.at-end) in
    let some = there_is c.args.entries.now c.loop-at.at below in
    record {
      count = next g (goal.at.loop-at-preserved g c).After-tally_inside_at-count;
      most = most_next (λ (x : EntryValue g.row.A.Denot). x.rows) c.args.entries.now c.loop-at.at some.0 _ _ _ below some.1.1 c.loop-at.invariant.most
          (c.tally_inside_at-count.ensures.most some.0 some.1);
      same = c.tally_inside_at-count.ensures.same ∙ c.loop-at.invariant.same;
    }

pub returns-clause-count : goal.returns-clause-count
returns-clause-count g c = λ labels are.
    counted_all (λ (x : EntryValue g.row.A.Denot). x.rows) c.args.entries.now c.loop-at.at c.args.query.now (g.J.Judge.judges c.args.judge.now) labels
    c.loop-at.count c.args.tally.now c.loop-at.tally (omega (arith, c.loop-at-test.false, c.loop-at.auto.at-end)) (c.loop-at.invariant.count labels are)

pub returns-clause-most : goal.returns-clause-most
returns-clause-most g c =
    most_all (λ (x : EntryValue g.row.A.Denot). x.rows) c.args.entries.now c.loop-at.at _ _
    (omega (arith, c.loop-at-test.false, c.loop-at.auto.at-end)) c.loop-at.invariant.most
