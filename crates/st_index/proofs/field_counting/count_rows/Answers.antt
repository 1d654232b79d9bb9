use Rattle.std.proofs.Common.{◌<◌, List, [], ◌∷◌, length, sym, subst, ◌∙◌, arith}
use Rattle.st_index.specs.declared.row.Row.{Row}
use Rattle.st_index.specs.inner.Fields.{CanAdd, Counts}
use Rattle.st_index.proofs.Tallying.{each_alone, far_all, far_fits, far_next}
use Rattle.st_index.proofs.field_counting.count_rows.Goals as goal

pub count_row-requires-clause-fits : goal.count_row-requires-clause-fits
count_row-requires-clause-fits g c =
    let rows = c.args.rows.now in
    let below : c.loop-row.row-index < length rows = omega arith in
    far_fits (g.F.Fields.query c.args.fields.now) (g.J.Judge.judges c.args.judge.now) (g.F.Fields.field_of c.args.fields.now)
    (λ (r : Row g.row.A.Denot). r ∷ []) rows c.loop-row.row-index c.row-item.result c.args.counts.now c.loop-row.counts
    c.loop-row.invariant.far below c.row-item.is (subst (λ (rs : List (Row g.row.A.Denot)). CanAdd (length rs) c.args.counts.now) (sym (each_alone rows)) c.requires.fits)

pub loop-row-preserved : goal.loop-row-preserved
loop-row-preserved g c =
    let q = g.F.Fields.query c.args.fields.now in
    let field_of = g.F.Fields.field_of c.args.fields.now in
    let rows = c.args.rows.now in
    let row = c.row-item.result in
    let below : c.loop-row.row-index < length rows = omega arith in
    record {
      far = far_next q (g.J.Judge.judges c.args.judge.now) field_of (λ (r : Row g.row.A.Denot). r ∷ []) rows c.loop-row.row-index row c.args.counts.now c.loop-row.counts c.count_row.new.counts
          c.loop-row.invariant.far below c.row-item.is
          (subst (λ j. Counts q j field_of (row ∷ []) c.loop-row.counts c.count_row.new.counts) c.loop-row.invariant.same
          (subst (λ r. Counts q (g.J.Judge.judges c.loop-row.judge) field_of (r ∷ []) c.loop-row.counts c.count_row.new.counts) c.of.ensures
          c.count_row.ensures.counts));
      same = c.count_row.ensures.same ∙ c.loop-row.invariant.same;
    }

pub returns-clause-counts : goal.returns-clause-counts
returns-clause-counts g c =
    let q = g.F.Fields.query c.args.fields.now in
    let judges = g.J.Judge.judges c.args.judge.now in
    let field_of = g.F.Fields.field_of c.args.fields.now in
    let rows = c.args.rows.now in
    subst (λ (rs : List (Row g.row.A.Denot)). Counts q judges field_of rs c.args.counts.now c.loop-row.counts) (each_alone rows)
    (far_all q judges field_of (λ (r : Row g.row.A.Denot). r ∷ []) rows c.loop-row.row-index c.args.counts.now c.loop-row.counts c.loop-row.invariant.far c.loop-row-test.false)
