use Rattle.std.proofs.Common.{◌≡◌, ℕ, ◌≤◌, List, length, sym, ap, subst, ◌∙◌, arith}
use Rattle.std.proofs.lemmas.List.Sums.{count_by-le-length}
use Rattle.st_index.specs.declared.row.Row.{Row}
use Rattle.st_index.specs.inner.Counting.{is_counted}
use Rattle.st_index.specs.inner.Fields.{CanAdd, Counts}
use Rattle.st_index.specs.inner.Entries.{rows_of}
use Rattle.st_tally.specs.inner.Pages.{rows_of_pages}
use Rattle.st_tally.specs.inner.Marks.{AreMarks}
use Rattle.st_tally.specs.inner.Sums.{AreInside}
use Rattle.st_ubtree.specs.inner.Nodes.{rows_under}
use Rattle.st_ubtree.proofs.Counting.{fields_none, fields_one}
use Rattle.st_ubtree.proofs.Over.{is_page, page_entries_in, page_fits_in, page_rows_in, seen_rows}
use Rattle.st_ubtree.proofs.node.Node.count_page_fields.Given.{Over}
use Rattle.st_ubtree.proofs.node.Node.count_page_fields.Goals.{After-as_slice-entries, In-Some-page}
use Rattle.st_ubtree.proofs.node.Node.count_page_fields.Goals as goal

rows : (g : Over) (c : After-as_slice-entries g) → rows_of_pages c.args.self.now.pages ≡ rows_of c.as_slice-entries.result.now
rows g c = page_rows_in (is_page c.self.inside c.in-Page.is c.self.invariant c.self.view_is) c.as_slice-entries.ensures.value

fits : (g : Over) (c : After-as_slice-entries g) → length c.as_slice-entries.result.now ≤ 32
fits g c = page_fits_in (is_page c.self.inside c.in-Page.is c.self.invariant c.self.view_is) c.as_slice-entries.ensures.value

-- as many can be added for the rows of the entries
can_add : (g : Over) (c : After-as_slice-entries g) → CanAdd (length (rows_of c.as_slice-entries.result.now)) c.args.counts.now
can_add g c = subst (λ (rs : List (Row g.row.A.Denot)). CanAdd (length rs) c.args.counts.now) (rows g c) c.requires.fits

-- what was counted of these rows
counted : (g : Over) (c : After-as_slice-entries g) (new : List ℕ)
    → Counts (g.F.Fields.query c.args.fields.now) (g.J.Judge.judges c.args.judge.now) (g.F.Fields.field_of c.args.fields.now)
    (rows_of c.as_slice-entries.result.now) c.args.counts.now new
    → Counts (g.F.Fields.query c.args.fields.now) (g.J.Judge.judges c.args.judge.now) (g.F.Fields.field_of c.args.fields.now)
    (rows_of_pages c.args.self.now.pages) c.args.counts.now new
counted g c new counts =
    subst (λ (rs : List (Row g.row.A.Denot)). Counts (g.F.Fields.query c.args.fields.now) (g.J.Judge.judges c.args.judge.now)
    (g.F.Fields.field_of c.args.fields.now) rs c.args.counts.now new) (sym (rows g c)) counts

-- the marks are those of the entries
marks : (g : Over) (c : In-Some-page g) → AreMarks c.args.verdicts.now.marks.now.labels.items c.as_slice-entries.result.now c.in-Some-page.page.now
marks g c =
    subst (λ es. AreMarks c.args.verdicts.now.marks.now.labels.items es c.in-Some-page.page.now)
    (page_entries_in (is_page c.self.inside c.in-Page.is c.self.invariant c.self.view_is) c.as_slice-entries.ensures.value)
    (c.in-Some-page.ensures c.requires.marked.0 c.args.self.now c.requires.marked.2 c.requires.marked.1)

pub returns-then-not-meets-clause-counts : goal.returns-then-not-meets-clause-counts
returns-then-not-meets-clause-counts g c =
    let judges = g.J.Judge.judges c.args.judge.now in
    fields_none (g.F.Fields.query c.args.fields.now) c.query-query.result.now judges (g.F.Fields.field_of c.args.fields.now) (rows_of_pages c.args.self.now.pages)
    (rows_under c.self.inside.kids) c.args.counts.now c.query-query.ensures (seen_rows c.self.inside c.self.view_is)
    (c.meets.ensures (rows_under c.self.inside.kids) judges c.self.invariant.1 c.if-not-meets.true)

pub count_page-rows-requires-clause-fits : goal.count_page-rows-requires-clause-fits
count_page-rows-requires-clause-fits g c = omega (arith, c.requires.fits 0)

pub returns-clause-counts : goal.returns-clause-counts
returns-clause-counts g c =
    fields_one (g.F.Fields.query c.args.fields.now) c.query-query.result.now (g.J.Judge.judges c.args.judge.now) (g.F.Fields.field_of c.args.fields.now)
    (rows_of_pages c.args.self.now.pages) (rows_under c.self.inside.kids) c.args.counts.now c.query-query.ensures (seen_rows c.self.inside c.self.view_is)
    c.in-Some.field c.count_page-rows.result c.add.new.counts (c.in-Some.ensures.some (rows_under c.self.inside.kids) c.self.invariant.1) c.count_page-rows.ensures.count c.add.ensures

pub count-requires-clause-fits : goal.count-requires-clause-fits
count-requires-clause-fits g c = can_add g (goal.at.count-requires-clause-fits g c).After-as_slice-entries

pub returns-in_default-page-clause-counts : goal.returns-in_default-page-clause-counts
returns-in_default-page-clause-counts g c =
    counted g (goal.at.returns-in_default-page-clause-counts g c).After-as_slice-entries c.count.new.counts c.count.ensures.counts

pub count_inside-requires-clause-fits : goal.count_inside-requires-clause-fits
count_inside-requires-clause-fits g c = can_add g (goal.at.count_inside-requires-clause-fits g c).After-as_slice-entries

pub count_inside-requires-clause-marked : goal.count_inside-requires-clause-marked
count_inside-requires-clause-marked g c = marks g (goal.at.count_inside-requires-clause-marked g c).In-Some-page

pub count_inside-requires-clause-not_more : goal.count_inside-requires-clause-not_more
count_inside-requires-clause-not_more g c = fits g (goal.at.count_inside-requires-clause-not_more g c).After-as_slice-entries

pub count_inside-requires-clause-inside : goal.count_inside-requires-clause-inside
count_inside-requires-clause-inside g c =
    subst (λ q. AreInside q (rows_of c.as_slice-entries.result.now)) c.query-query.ensures
    (subst (AreInside c.query-query.result.now) (ap rows_under c.in-Page.is ∙ ap rows_of (sym c.as_slice-entries.ensures.value))
    (c.lies_in.ensures (rows_under c.self.inside.kids) c.self.invariant.1 c.if-lies_in.true))

pub returns-then-lies_in-clause-counts : goal.returns-then-lies_in-clause-counts
returns-then-lies_in-clause-counts g c =
    counted g (goal.at.returns-then-lies_in-clause-counts g c).After-as_slice-entries c.count_inside.new.counts c.count_inside.ensures.counts

pub count_marked-requires-clause-fits : goal.count_marked-requires-clause-fits
count_marked-requires-clause-fits g c = can_add g (goal.at.count_marked-requires-clause-fits g c).After-as_slice-entries

pub count_marked-requires-clause-marked : goal.count_marked-requires-clause-marked
count_marked-requires-clause-marked g c = marks g (goal.at.count_marked-requires-clause-marked g c).In-Some-page

pub returns-2-clause-counts : goal.returns-2-clause-counts
returns-2-clause-counts g c =
    counted g (goal.at.returns-2-clause-counts g c).After-as_slice-entries c.count_marked.new.counts c.count_marked.ensures.counts

pub count_marked-requires-clause-not_more : goal.count_marked-requires-clause-not_more
count_marked-requires-clause-not_more g c = fits g (goal.at.count_marked-requires-clause-not_more g c).After-as_slice-entries

pub add-requires-clause-fits : goal.add-requires-clause-fits
add-requires-clause-fits g c =
    let most = count_by-le-length (is_counted c.query-query.result.now (g.J.Judge.judges c.args.judge.now)) (rows_of_pages c.args.self.now.pages) in
    omega (arith, c.requires.fits c.in-Some.field, most, c.count_page-rows.ensures.count)
