use Rattle.std.proofs.Common.{◌≡◌, ℕ, ◌<◌, List, length, refl, sym, subst, ◌∙◌, arith, rules}
use Rattle.std.proofs.lemmas.List.Sums.{count_by-le-length}
use Rattle.st_index.specs.declared.row.Row.{Row}
use Rattle.st_index.specs.inner.Counting.{is_counted}
use Rattle.st_index.specs.inner.Fields.{CanAdd, Counts}
use Rattle.st_index.specs.inner.Entries.{rows_of}
use Rattle.st_index.proofs.Tallying.{far_all, far_fits, far_next}
use Rattle.st_tally.specs.inner.Marks.{AreMarked}
use Rattle.st_tally.specs.inner.Pages.{NodeValue, rows_of_pages}
use Rattle.st_tally.proofs.Fielding.{counts_by}
use Rattle.st_ubtree.specs.inner.Nodes.{rows_under}
use Rattle.st_ubtree.proofs.Keeping.{rows_of_kids}
use Rattle.st_ubtree.proofs.Counting.{fields_none, fields_one}
use Rattle.st_ubtree.proofs.Over.{IsOver, IsPage, each_in, is_over, is_page, item_lower, page_rows_in, rows_in, seen_rows}
use Rattle.st_ubtree.proofs.node.Node.+count_fields.Given.{Over}
use Rattle.st_ubtree.proofs.node.Node.+count_fields.Goals.{In-Page, In-Inner}
use Rattle.st_ubtree.proofs.node.Node.+count_fields.Goals as goal

one_page : (g : Over) (t : ℕ) (c : In-Page g t) → IsPage c.self.inside c.in-Page.entries c.args.self.now
one_page g t c = is_page c.self.inside c.in-Page.is c.self.invariant c.self.view_is

over : (g : Over) (t : ℕ) (c : In-Inner g t) → IsOver c.self.inside c.in-Inner.kids c.in-Inner.aside.value c.args.self.now
over g t c = is_over c.self.inside c.in-Inner.is refl c.self.invariant c.self.view_is

pub returns-then-not-meets-clause-counts : goal.returns-then-not-meets-clause-counts
returns-then-not-meets-clause-counts g t c =
    let judges = g.J.Judge.judges c.args.judge.now in
    fields_none (g.F.Fields.query c.args.fields.now) c.query-query.result.now judges (g.F.Fields.field_of c.args.fields.now) (rows_of_pages c.args.self.now.pages)
    (rows_under c.self.inside.kids) c.args.counts.now c.query-query.ensures (seen_rows c.self.inside c.self.view_is)
    (c.meets.ensures (rows_under c.self.inside.kids) judges c.self.invariant.1 c.if-not-meets.true)

pub count-rows-requires : goal.count-rows-requires
count-rows-requires g t c = omega (arith, c.requires.fits 0)

pub returns-in-Some-clause-counts : goal.returns-in-Some-clause-counts
returns-in-Some-clause-counts g t c =
    fields_one (g.F.Fields.query c.args.fields.now) c.query-query.result.now (g.J.Judge.judges c.args.judge.now) (g.F.Fields.field_of c.args.fields.now)
    (rows_of_pages c.args.self.now.pages) (rows_under c.self.inside.kids) c.args.counts.now c.query-query.ensures (seen_rows c.self.inside c.self.view_is)
    c.in-Some.field c.count-rows.result c.add.new.counts (c.in-Some.ensures.some (rows_under c.self.inside.kids) c.self.invariant.1) c.count-rows.ensures.count c.add.ensures

pub count-requires-clause-fits : goal.count-requires-clause-fits
count-requires-clause-fits g t c =
    subst (λ (rs : List (Row g.row.A.Denot)). CanAdd (length rs) c.args.counts.now)
    (page_rows_in (one_page g t (goal.at.count-requires-clause-fits g t c).In-Page) c.as_slice.ensures.value) c.requires.fits

pub returns-in-Page-clause-counts : goal.returns-in-Page-clause-counts
returns-in-Page-clause-counts g t c =
    let judges = g.J.Judge.judges c.args.judge.now in
    let rows = page_rows_in (one_page g t (goal.at.returns-in-Page-clause-counts g t c).In-Page) c.as_slice.ensures.value in
    counts_by (g.F.Fields.query c.args.fields.now) (g.F.Fields.field_of c.args.fields.now) c.args.counts.now c.count.new.counts judges judges
    (rows_of c.as_slice.result.now) (rows_of_pages c.args.self.now.pages) refl (sym rows) c.count.ensures.counts

pub loop-kid-preserved : goal.loop-kid-preserved
loop-kid-preserved g t c =
    let q = g.F.Fields.query c.args.fields.now in
    let field_of = g.F.Fields.field_of c.args.fields.now in
    record {
      far = far_next q (g.J.Judge.judges c.args.judge.now) field_of (λ (v : NodeValue g.row.A.Denot). rows_of_pages v.pages) c.as_slice-kid-items.result.now
          c.loop-kid.kid-index c.kid-item.result c.args.counts.now c.loop-kid.counts c.count_fields.new.counts c.loop-kid.invariant.far (omega arith) c.kid-item.is
          (subst (λ j. Counts q j field_of (rows_of_pages c.kid-item.result.pages) c.loop-kid.counts c.count_fields.new.counts) c.loop-kid.invariant.same
          c.count_fields.ensures.counts);
      same = c.count_fields.ensures.same ∙ c.loop-kid.invariant.same;
    }

pub returns-after-loop-kid-clause-counts : goal.returns-after-loop-kid-clause-counts
returns-after-loop-kid-clause-counts g t c =
    let q = g.F.Fields.query c.args.fields.now in
    let judges = g.J.Judge.judges c.args.judge.now in
    let field_of = g.F.Fields.field_of c.args.fields.now in
    let xs = c.as_slice-kid-items.result.now in
    let rows = rows_in (over g t (goal.at.returns-after-loop-kid-clause-counts g t c).In-Inner) c.as_slice-kid-items.ensures.value ∙ rows_of_kids xs in
    subst (λ (rs : List (Row g.row.A.Denot)). Counts q judges field_of rs c.args.counts.now c.loop-kid.counts) (sym rows)
    (far_all q judges field_of (λ (v : NodeValue g.row.A.Denot). rows_of_pages v.pages) xs c.loop-kid.kid-index c.args.counts.now c.loop-kid.counts
    c.loop-kid.invariant.far c.loop-kid-test.false)

pub count_pages-requires-clause-lowest : goal.count_pages-requires-clause-lowest
count_pages-requires-clause-lowest g t c =
    let o = over g t (goal.at.count_pages-requires-clause-lowest g t c).In-Inner in
    let low : o.good.below ≡ 0 = omega (arith, c.if-self-eq1.true, o.good.higher) in
    λ k d l. (each_in o c.as_slice-then-self-eq1.ensures.value k d l).same_height ∙ low

pub count_pages-requires-clause-fits : goal.count_pages-requires-clause-fits
count_pages-requires-clause-fits g t c =
    let rows = rows_in (over g t (goal.at.count_pages-requires-clause-fits g t c).In-Inner) c.as_slice-then-self-eq1.ensures.value in
    subst (λ (rs : List (Row g.row.A.Denot)). CanAdd (length rs) c.args.counts.now) rows c.requires.fits

pub count_pages-requires-clause-marked : goal.count_pages-requires-clause-marked
count_pages-requires-clause-marked g t c =
    subst (AreMarked c.deref.result.now.marks) (sym c.as_slice-then-self-eq1.ensures.value)
    (is_over c.self.inside c.in-Inner.is c.deref.ensures c.self.invariant c.self.view_is).marked

pub returns-then-self-eq1-clause-counts : goal.returns-then-self-eq1-clause-counts
returns-then-self-eq1-clause-counts g t c =
    let rows = rows_in (over g t (goal.at.returns-then-self-eq1-clause-counts g t c).In-Inner) c.as_slice-then-self-eq1.ensures.value in
    subst (λ (rs : List (Row g.row.A.Denot)). Counts (g.F.Fields.query c.args.fields.now) (g.J.Judge.judges c.args.judge.now)
    (g.F.Fields.field_of c.args.fields.now) rs c.args.counts.now c.count_pages.new.counts) (sym rows) c.count_pages.ensures.counts

pub count_fields-requires : goal.count_fields-requires
count_fields-requires g t c κs within =
    let o = over g t (goal.at.count_fields-requires g t c).In-Inner in
    let xs = c.as_slice-kid-items.result.now in
    let i = c.loop-kid.kid-index in
    let kid = c.kid-item.result in
    let below : i < length xs = omega arith in
    let lower = item_lower o c.as_slice-kid-items.ensures.value i kid below c.kid-item.is in
    let all = subst (λ (rs : List (Row g.row.A.Denot)). CanAdd (length rs) c.args.counts.now) (rows_in o c.as_slice-kid-items.ensures.value ∙ rows_of_kids xs) c.requires.fits in
    let fits : CanAdd (length (rows_of_pages kid.pages)) c.loop-kid.counts =
    far_fits (g.F.Fields.query c.args.fields.now) (g.J.Judge.judges c.args.judge.now) (g.F.Fields.field_of c.args.fields.now)
    (λ (v : NodeValue g.row.A.Denot). rows_of_pages v.pages) xs i kid c.args.counts.now c.loop-kid.counts c.loop-kid.invariant.far below c.kid-item.is all in
    let long : length c.loop-kid.counts ≡ g.F.Fields.count c.args.fields.now = c.loop-kid.auto.counts ∙ c.requires.long in
    (search (rules, lower), (within.0, (within.1.0, (within.1.1, (long, fits)))))

pub add-requires-clause-fits : goal.add-requires-clause-fits
add-requires-clause-fits g t c =
    let most = count_by-le-length (is_counted c.query-query.result.now (g.J.Judge.judges c.args.judge.now)) (rows_of_pages c.args.self.now.pages) in
    omega (arith, c.requires.fits c.in-Some.field, most, c.count-rows.ensures.count)
