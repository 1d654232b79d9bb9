use Rattle.std.proofs.Common.{List, length, sym, ap, subst, ◌∙◌, arith, rules}
use Rattle.st_index.specs.declared.row.Row.{Row}
use Rattle.st_index.specs.inner.Fields.{CanAdd, Counts}
use Rattle.st_index.specs.inner.Entries.{EntryValue, rows_of}
use Rattle.st_tally.specs.inner.Marks.{HasAt, IsMark, IsTested}
use Rattle.st_tally.proofs.ByMarks.{one_entry, rows_of_one}
use Rattle.st_tally.proofs.Fielding.{marked_counts, marked_fits, marked_spot}
use Rattle.st_tally.proofs.Placing.{there_is}
use Rattle.st_tally.proofs.Tallied.{IsRead, is_read, spot_in}
use Rattle.st_tally.proofs.Tested.{none_in_field_at}
use Rattle.st_tally.proofs.field_marked.count_at.Given.{Over}
use Rattle.st_tally.proofs.field_marked.count_at.Goals.{After-from-index}
use Rattle.st_tally.proofs.field_marked.count_at.Goals as goal

read : (g : Over) (c : After-from-index g) → IsRead c.args.marks.now c.args.at c.from-index.result
read g c = is_read c.args.marks.now c.args.at c.from-index.result (length c.args.entries.now) (search rules, search rules) c.requires.within c.requires.not_more c.from-index.ensures

-- what was read is the mark of the entry
mark : (g : Over) (c : After-from-index g) (e : EntryValue g.row.A.Denot) → HasAt c.args.entries.now c.args.at e
    → IsMark c.args.verdicts.now.marks.now.labels.items e c.from-index.result c.args.marks.now.week (spot_in c.args.marks.now c.args.at)
mark g c e h = c.requires.marked c.args.at e h c.from-index.result (spot_in c.args.marks.now c.args.at) (read g c).number_at (read g c).spot_at

pub returns-then-not-inside-clause-counts : goal.returns-then-not-inside-clause-counts
returns-then-not-inside-clause-counts g c = λ e h.
    let q = g.F.Fields.query c.args.fields.now in
    none_in_field_at q (g.J.Judge.judges c.args.judge.now) c.args.verdicts.now.marks.now.labels.items c.args.entries.now c.args.marks.now c.requires.marked
    (search rules, search rules) c.requires.not_more c.args.at e h (subst (IsTested q c.args.marks.now c.args.at) c.if-not-inside.true c.requires.tested)
    (g.F.Fields.field_of c.args.fields.now) c.args.counts.now

pub count_numbered-requires-clause-spot : goal.count_numbered-requires-clause-spot
count_numbered-requires-clause-spot g c =
    let some = there_is c.args.entries.now c.args.at c.requires.within in
    marked_spot c.args.verdicts.now.marks.now.labels.items some.0 c.from-index.result c.args.marks.now.week (spot_in c.args.marks.now c.args.at)
    (mark g (goal.at.count_numbered-requires-clause-spot g c).After-from-index some.0 some.1) (omega (arith, c.if-index-lt-MAX_NUMBERS.true))

pub count_numbered-requires-clause-inside : goal.count_numbered-requires-clause-inside
count_numbered-requires-clause-inside g c = λ point is.
    let r = read g (goal.at.count_numbered-requires-clause-inside g c).After-from-index in
    let tested = c.requires.tested c.from-index.result (spot_in c.args.marks.now c.args.at) r.number_at r.spot_at in
    sym (tested.1 (omega (arith, c.if-index-lt-MAX_NUMBERS.true)) point is) ∙ c.if-not-inside.false

pub count_numbered-requires-clause-fits : goal.count_numbered-requires-clause-fits
count_numbered-requires-clause-fits g c =
    let some = there_is c.args.entries.now c.args.at c.requires.within in
    marked_fits c.args.verdicts.now.marks.now.labels.items some.0 c.from-index.result c.args.marks.now.week (spot_in c.args.marks.now c.args.at)
    (mark g (goal.at.count_numbered-requires-clause-fits g c).After-from-index some.0 some.1) (omega (arith, c.if-index-lt-MAX_NUMBERS.true))
    c.args.counts.now (c.requires.fits some.0 some.1)

pub returns-then-index-lt-MAX_NUMBERS-clause-counts : goal.returns-then-index-lt-MAX_NUMBERS-clause-counts
returns-then-index-lt-MAX_NUMBERS-clause-counts g c = λ e h.
    marked_counts (g.F.Fields.query c.args.fields.now) (g.J.Judge.judges c.args.judge.now) (g.F.Fields.field_of c.args.fields.now)
    c.args.verdicts.now.marks.now.labels.items e c.from-index.result c.args.marks.now.week (spot_in c.args.marks.now c.args.at)
    (mark g (goal.at.returns-then-index-lt-MAX_NUMBERS-clause-counts g c).After-from-index e h)
    c.args.counts.now c.count_numbered.new.counts c.if-index-lt-MAX_NUMBERS.true c.count_numbered.ensures.counts

pub count-requires-clause-fits : goal.count-requires-clause-fits
count-requires-clause-fits g c =
    let some = there_is c.args.entries.now c.args.at c.requires.within in
    subst (λ (rs : List (Row g.row.A.Denot)). CanAdd (length rs) c.args.counts.now)
    (sym (ap rows_of (one_entry c.args.entries.now c.args.at some.0 some.1) ∙ rows_of_one some.0)) (c.requires.fits some.0 some.1)

pub returns-clause-counts : goal.returns-clause-counts
returns-clause-counts g c = λ e h.
    subst (λ (rs : List (Row g.row.A.Denot)). Counts (g.F.Fields.query c.args.fields.now) (g.J.Judge.judges c.args.judge.now)
    (g.F.Fields.field_of c.args.fields.now) rs c.args.counts.now c.count.new.counts)
    (ap rows_of (one_entry c.args.entries.now c.args.at e h) ∙ rows_of_one e) c.count.ensures.counts
