use Rattle.std.proofs.Common.{◌≡◌, ℕ, ◌+◌, ◌<◌, ◌≤◌, get_or, length, refl, sym, subst, ◌∙◌, arith, Bor}
use Rattle.st_index.specs.inner.Fields.{Counts}
use Rattle.st_index.specs.inner.Entries.{EntryValue}
use Rattle.st_index.proofs.Tallying.{far_all, far_fits, far_next}
use Rattle.st_tally.specs.declared.marks.Marks.{Marks}
use Rattle.st_tally.specs.inner.Marks.{AreMarks}
use Rattle.st_tally.proofs.Placing.{there_is}
use Rattle.st_tally.proofs.Tallied.{known_by}
use Rattle.st_tally.proofs.field_marked.count_tested.Goals as goal

plus_zero : (n : ℕ) → n ≡ n + 0
plus_zero n = omega arith

pub count_at-requires-clause-marked : goal.count_at-requires-clause-marked
count_at-requires-clause-marked g c =
    subst (λ (m : Bor (Marks g.row.A.Denot)). AreMarks m.now.labels.items c.args.entries.now c.args.marks.now) (sym c.loop-at.invariant.marks) c.requires.marked

pub count_at-requires-clause-known : goal.count_at-requires-clause-known
count_at-requires-clause-known g c =
    known_by (g.J.Judge.judges c.loop-at.judge) (g.J.Judge.judges c.args.judge.now) c.args.verdicts.now.marks c.loop-at.verdicts.marks c.loop-at.verdicts.found
    (sym c.loop-at.invariant.same) (sym c.loop-at.invariant.marks) c.loop-at.invariant.known

pub count_at-requires-clause-fits : goal.count_at-requires-clause-fits
count_at-requires-clause-fits g c = λ e h.
    far_fits (g.F.Fields.query c.args.fields.now) (g.J.Judge.judges c.args.judge.now) (g.F.Fields.field_of c.args.fields.now)
    (λ (x : EntryValue g.row.A.Denot). x.rows) c.args.entries.now c.loop-at.at e c.args.counts.now c.loop-at.counts
    c.loop-at.invariant.far h.0 h.1 c.requires.fits

pub loop-at-preserved : goal.loop-at-preserved
loop-at-preserved g c =
    let q = g.F.Fields.query c.args.fields.now in
    let field_of = g.F.Fields.field_of c.args.fields.now in
    let entries = c.args.entries.now in
    let at = c.loop-at.at in
    let below : at < length entries = omega (arith, c.loop-at-test.true, c.loop-at.auto.at-end) in
    let some = there_is entries at below in
    record {
      far = far_next q (g.J.Judge.judges c.args.judge.now) field_of (λ (e : EntryValue g.row.A.Denot). e.rows) entries at some.0 c.args.counts.now c.loop-at.counts c.count_at.new.counts
          c.loop-at.invariant.far below some.1.1
          (subst (λ j. Counts q j field_of some.0.rows c.loop-at.counts c.count_at.new.counts) c.loop-at.invariant.same
          (c.count_at.ensures.counts some.0 some.1));
      marks = c.count_at.ensures.marks ∙ c.loop-at.invariant.marks;
      known = known_by (g.J.Judge.judges c.args.judge.now) (g.J.Judge.judges c.loop-at.judge) c.loop-at.verdicts.marks c.args.verdicts.now.marks c.count_at.new.verdicts.found
          c.loop-at.invariant.same c.loop-at.invariant.marks c.count_at.ensures.known;
      same = c.count_at.ensures.same ∙ c.loop-at.invariant.same;
    }

pub returns-clause-counts : goal.returns-clause-counts
returns-clause-counts g c =
    let over : length c.args.entries.now ≤ c.loop-at.at = omega (arith, c.loop-at-test.false, c.loop-at.auto.at-end) in
    far_all (g.F.Fields.query c.args.fields.now) (g.J.Judge.judges c.args.judge.now) (g.F.Fields.field_of c.args.fields.now)
    (λ (e : EntryValue g.row.A.Denot). e.rows) c.args.entries.now c.loop-at.at c.args.counts.now c.loop-at.counts
    c.loop-at.invariant.far over

pub count_at-requires-clause-tested : goal.count_at-requires-clause-tested
count_at-requires-clause-tested g c =
    let below : c.loop-at.at < length c.args.entries.now = omega (arith, c.loop-at-test.true, c.loop-at.auto.at-end) in
    let some = there_is c.args.entries.now c.loop-at.at below in
    c.requires.tested c.loop-at.at some.0 some.1

pub loop-at-init : goal.loop-at-init
loop-at-init g c = record { far = λ field. plus_zero (get_or c.args.counts.now field 0); marks = refl; known = c.requires.known; same = refl }
