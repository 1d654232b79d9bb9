use Rattle.std.proofs.Common.{◌<◌, length, subst, ◌∙◌, arith}
use Rattle.st_index.specs.inner.Fields.{Counts}
use Rattle.st_index.specs.inner.Entries.{EntryValue}
use Rattle.st_index.proofs.Tallying.{far_all, far_fits, far_next}
use Rattle.st_index.proofs.field_counting.count.Goals as goal

pub count_entry-requires-clause-fits : goal.count_entry-requires-clause-fits
count_entry-requires-clause-fits g c =
    let entries = c.args.entries.now in
    let below : c.loop-entry.entry-index < length entries = omega arith in
    far_fits (g.F.Fields.query c.args.fields.now) (g.J.Judge.judges c.args.judge.now) (g.F.Fields.field_of c.args.fields.now)
    (λ (e : EntryValue g.row.A.Denot). e.rows) entries c.loop-entry.entry-index c.entry-item.result c.args.counts.now c.loop-entry.counts
    c.loop-entry.invariant.far below c.entry-item.is c.requires.fits

pub loop-entry-preserved : goal.loop-entry-preserved
loop-entry-preserved g c =
    let q = g.F.Fields.query c.args.fields.now in
    let field_of = g.F.Fields.field_of c.args.fields.now in
    let entries = c.args.entries.now in
    let entry = c.entry-item.result in
    let below : c.loop-entry.entry-index < length entries = omega arith in
    record {
      far = far_next q (g.J.Judge.judges c.args.judge.now) field_of (λ (e : EntryValue g.row.A.Denot). e.rows) entries c.loop-entry.entry-index entry
          c.args.counts.now c.loop-entry.counts c.count_entry.new.counts
          c.loop-entry.invariant.far below c.entry-item.is
          (subst (λ j. Counts q j field_of entry.rows c.loop-entry.counts c.count_entry.new.counts) c.loop-entry.invariant.same
          c.count_entry.ensures.counts);
      same = c.count_entry.ensures.same ∙ c.loop-entry.invariant.same;
    }

pub returns-clause-counts : goal.returns-clause-counts
returns-clause-counts g c =
    far_all (g.F.Fields.query c.args.fields.now) (g.J.Judge.judges c.args.judge.now) (g.F.Fields.field_of c.args.fields.now)
    (λ (e : EntryValue g.row.A.Denot). e.rows) c.args.entries.now c.loop-entry.entry-index c.args.counts.now c.loop-entry.counts
    c.loop-entry.invariant.far c.loop-entry-test.false
