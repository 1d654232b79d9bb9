use Rattle.std.proofs.Common.{List, length, refl, sym, ap, subst, ◌∙◌, arith, Bor}
use Rattle.st_index.specs.declared.row.Row.{Row}
use Rattle.st_index.specs.inner.Fields.{CanAdd, Counts}
use Rattle.st_index.proofs.Tallying.{far_all, far_fits, far_next, far_none}
use Rattle.st_tally.specs.inner.Pages.{NodeValue, rows_of_pages}
use Rattle.st_tally.specs.declared.marks.Marks.{Marks}
use Rattle.st_tally.specs.inner.Marks.{AreMarked}
use Rattle.st_ubtree.proofs.Keeping.{rows_of_kids}
use Rattle.st_tally.proofs.Tallied.{known_by}
use Rattle.st_ubtree.proofs.node.fields.count_pages.Goals as goal

pub count_page_fields-requires-clause-lowest : goal.count_page_fields-requires-clause-lowest
count_page_fields-requires-clause-lowest g c =
    ap (λ (v : NodeValue g.row.A.Denot). v.height) c.index-kids-at.is ∙ c.requires.lowest c.loop-at.at c.index-kids-at.result c.loop-at-test.true

pub count_page_fields-requires-clause-fits : goal.count_page_fields-requires-clause-fits
count_page_fields-requires-clause-fits g c =
    far_fits (g.F.Fields.query c.args.fields.now) (g.J.Judge.judges c.args.judge.now) (g.F.Fields.field_of c.args.fields.now)
    (λ (v : NodeValue g.row.A.Denot). rows_of_pages v.pages) c.args.kids.now c.loop-at.at c.index-kids-at.result c.args.counts.now c.loop-at.counts
    c.loop-at.invariant.far c.loop-at-test.true c.index-kids-at.is
    (subst (λ (rs : List (Row g.row.A.Denot)). CanAdd (length rs) c.args.counts.now) (rows_of_kids c.args.kids.now) c.requires.fits)

pub count_page_fields-requires-clause-marked : goal.count_page_fields-requires-clause-marked
count_page_fields-requires-clause-marked g c =
    let marks = ap (λ (m : Bor (Marks g.row.A.Denot)). m.now) c.loop-at.invariant.marks ∙ c.none-verdicts.ensures.marks in
    (c.args.kids.now, subst (λ m. AreMarked m c.args.kids.now) (sym marks) c.requires.marked, (c.loop-at-test.true, c.index-kids-at.is))

pub count_page_fields-requires-clause-known : goal.count_page_fields-requires-clause-known
count_page_fields-requires-clause-known g c =
    known_by (g.J.Judge.judges c.loop-at.judge) (g.J.Judge.judges c.args.judge.now) c.none-verdicts.result.marks c.loop-at.verdicts.marks c.loop-at.verdicts.found
    (sym c.loop-at.invariant.same) (sym c.loop-at.invariant.marks) c.loop-at.invariant.known

pub loop-at-init : goal.loop-at-init
loop-at-init g c =
    let judges = g.J.Judge.judges c.args.judge.now in
    record {
      far = far_none (g.F.Fields.query c.args.fields.now) judges (g.F.Fields.field_of c.args.fields.now) (λ (v : NodeValue g.row.A.Denot). rows_of_pages v.pages) c.args.kids.now c.args.counts.now;
      same = refl;
      marks = refl;
      known = c.none-verdicts.ensures.known judges;
    }

pub loop-at-preserved : goal.loop-at-preserved
loop-at-preserved g c =
    let q = g.F.Fields.query c.args.fields.now in
    let field_of = g.F.Fields.field_of c.args.fields.now in
    record {
      far = far_next q (g.J.Judge.judges c.args.judge.now) field_of (λ (v : NodeValue g.row.A.Denot). rows_of_pages v.pages) c.args.kids.now c.loop-at.at
          c.index-kids-at.result c.args.counts.now c.loop-at.counts c.count_page_fields.new.counts c.loop-at.invariant.far c.loop-at-test.true c.index-kids-at.is
          (subst (λ j. Counts q j field_of (rows_of_pages c.index-kids-at.result.pages) c.loop-at.counts c.count_page_fields.new.counts) c.loop-at.invariant.same
          c.count_page_fields.ensures.counts);
      same = c.count_page_fields.ensures.same ∙ c.loop-at.invariant.same;
      marks = c.count_page_fields.ensures.marks ∙ c.loop-at.invariant.marks;
      known = known_by (g.J.Judge.judges c.args.judge.now) (g.J.Judge.judges c.loop-at.judge) c.loop-at.verdicts.marks c.none-verdicts.result.marks c.count_page_fields.new.verdicts.found
          c.loop-at.invariant.same c.loop-at.invariant.marks c.count_page_fields.ensures.known;
    }

pub returns-clause-counts : goal.returns-clause-counts
returns-clause-counts g c =
    let q = g.F.Fields.query c.args.fields.now in
    let judges = g.J.Judge.judges c.args.judge.now in
    let field_of = g.F.Fields.field_of c.args.fields.now in
    subst (λ (rs : List (Row g.row.A.Denot)). Counts q judges field_of rs c.args.counts.now c.loop-at.counts) (sym (rows_of_kids c.args.kids.now))
    (far_all q judges field_of (λ (v : NodeValue g.row.A.Denot). rows_of_pages v.pages) c.args.kids.now c.loop-at.at c.args.counts.now c.loop-at.counts
    c.loop-at.invariant.far (omega (arith, c.loop-at-test.false, c.loop-at.auto.at-end)))
