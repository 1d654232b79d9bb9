use Rattle.std.proofs.Common.{◌≡◌, ◌+◌, ◌<◌, ◌≤◌, length, sym, ap, subst, ◌∙◌, arith}
use Rattle.std.specs.List.{sum}
use Rattle.st_key.specs.Key.{rank}
use Rattle.st_index.specs.inner.Counting.{count_of}
use Rattle.st_index.specs.inner.Entries.{rows_of}
use Rattle.st_tally.specs.inner.Pages.{NodeValue, rows_of_pages}
use Rattle.st_tally.specs.inner.Marks.{AreMarks}
use Rattle.st_tally.specs.inner.Sums.{AreInside}
use Rattle.st_ubtree.specs.inner.Nodes.{rows_under}
use Rattle.st_ubtree.proofs.Counting.{lowest_page}
use Rattle.st_ubtree.proofs.Over.{is_page, page_entries_in, page_fits_in, page_rows_in, seen_rows}
use Rattle.st_ubtree.proofs.node.Node.tally_page.Given.{Over}
use Rattle.st_ubtree.proofs.node.Node.tally_page.Goals.{After-as_slice-entries, In-Some}
use Rattle.st_ubtree.proofs.node.Node.tally_page.Goals as goal

rows : (g : Over) (c : After-as_slice-entries g) → rows_of_pages c.args.self.now.pages ≡ rows_of c.as_slice-entries.result.now
rows g c = page_rows_in (is_page c.self.inside c.in-Page.is c.self.invariant c.self.view_is) c.as_slice-entries.ensures.value

fits : (g : Over) (c : After-as_slice-entries g) → length c.as_slice-entries.result.now ≤ 32
fits g c = page_fits_in (is_page c.self.inside c.in-Page.is c.self.invariant c.self.view_is) c.as_slice-entries.ensures.value

-- the marks are those of the entries
marks : (g : Over) (c : In-Some g) → AreMarks c.args.marks.now.labels.items c.as_slice-entries.result.now c.in-Some.page.now
marks g c =
    subst (λ es. AreMarks c.args.marks.now.labels.items es c.in-Some.page.now)
    (page_entries_in (is_page c.self.inside c.in-Page.is c.self.invariant c.self.view_is) c.as_slice-entries.ensures.value)
    (c.in-Some.ensures c.requires.marked.0 c.args.self.now c.requires.marked.2 c.requires.marked.1)

pub unreachable-requires : goal.unreachable-requires
unreachable-requires g c =
    lowest_page (rank c.self.inside.first) c.self.inside.height c.self.inside.kids c.self.invariant.0
    (omega (arith, ap (λ (v : NodeValue g.row.A.Denot). v.height) c.self.view_is, c.requires.lowest)) c.in_default.not-Page

pub returns-then-not-meets-clause-count : goal.returns-then-not-meets-clause-count
returns-then-not-meets-clause-count g c =
    let judges = g.J.Judge.judges c.args.judge.now in
    let none = ap (count_of c.args.query.now judges) (seen_rows c.self.inside c.self.view_is)
    ∙ c.meets.ensures (rows_under c.self.inside.kids) judges c.self.invariant.1 c.if-not-meets.true in
    omega (arith, none)

pub count-requires : goal.count-requires
count-requires g c =
    omega (arith, subst (λ xs. sum c.args.tally.now + length xs < 18446744073709551616) (rows g (goal.at.count-requires g c).After-as_slice-entries) c.requires.fits)

pub returns-in_default-page-clause-count : goal.returns-in_default-page-clause-count
returns-in_default-page-clause-count g c =
    let count = c.count.ensures.count ∙ ap (count_of c.args.query.now (g.J.Judge.judges c.args.judge.now))
    (sym (rows g (goal.at.returns-in_default-page-clause-count g c).After-as_slice-entries)) in
    omega (arith, count)

pub count_inside-requires-clause-not_more : goal.count_inside-requires-clause-not_more
count_inside-requires-clause-not_more g c = fits g (goal.at.count_inside-requires-clause-not_more g c).After-as_slice-entries

pub count_inside-requires-clause-inside : goal.count_inside-requires-clause-inside
count_inside-requires-clause-inside g c =
    subst (AreInside c.args.query.now) (ap rows_under c.in-Page.is ∙ ap rows_of (sym c.as_slice-entries.ensures.value))
    (c.lies_in.ensures (rows_under c.self.inside.kids) c.self.invariant.1 c.if-lies_in.true)

pub count_inside-requires-clause-fits : goal.count_inside-requires-clause-fits
count_inside-requires-clause-fits g c =
    subst (λ xs. sum c.args.tally.now + length xs < 18446744073709551616)
    (rows g (goal.at.count_inside-requires-clause-fits g c).After-as_slice-entries) c.requires.fits

pub count_inside-requires-clause-marked : goal.count_inside-requires-clause-marked
count_inside-requires-clause-marked g c = (c.args.marks.now.labels.items, marks g (goal.at.count_inside-requires-clause-marked g c).In-Some)

pub returns-then-lies_in-clause-count : goal.returns-then-lies_in-clause-count
returns-then-lies_in-clause-count g c =
    let same = ap (count_of c.args.query.now (g.J.Judge.judges c.args.judge.now)) (rows g (goal.at.returns-then-lies_in-clause-count g c).After-as_slice-entries) in
    omega (arith, same, c.count_inside.ensures.count c.args.marks.now.labels.items (marks g (goal.at.returns-then-lies_in-clause-count g c).In-Some))

pub returns-then-lies_in-clause-most : goal.returns-then-lies_in-clause-most
returns-then-lies_in-clause-most g c =
    subst (λ xs. sum c.count_inside.new.tally ≤ sum c.args.tally.now + length xs)
    (sym (rows g (goal.at.returns-then-lies_in-clause-most g c).After-as_slice-entries)) c.count_inside.ensures.most

pub count_marked-requires-clause-not_more : goal.count_marked-requires-clause-not_more
count_marked-requires-clause-not_more g c = fits g (goal.at.count_marked-requires-clause-not_more g c).After-as_slice-entries

pub count_marked-requires-clause-fits : goal.count_marked-requires-clause-fits
count_marked-requires-clause-fits g c =
    subst (λ xs. sum c.args.tally.now + length xs < 18446744073709551616)
    (rows g (goal.at.count_marked-requires-clause-fits g c).After-as_slice-entries) c.requires.fits

pub count_marked-requires-clause-marked : goal.count_marked-requires-clause-marked
count_marked-requires-clause-marked g c = (c.args.marks.now.labels.items, marks g (goal.at.count_marked-requires-clause-marked g c).In-Some)

pub returns-clause-count : goal.returns-clause-count
returns-clause-count g c =
    let same = ap (count_of c.args.query.now (g.J.Judge.judges c.args.judge.now)) (rows g (goal.at.returns-clause-count g c).After-as_slice-entries) in
    omega (arith, same, c.count_marked.ensures.count c.args.marks.now.labels.items (marks g (goal.at.returns-clause-count g c).In-Some))

pub returns-clause-most : goal.returns-clause-most
returns-clause-most g c =
    subst (λ xs. sum c.count_marked.new.tally ≤ sum c.args.tally.now + length xs)
    (sym (rows g (goal.at.returns-clause-most g c).After-as_slice-entries)) c.count_marked.ensures.most
