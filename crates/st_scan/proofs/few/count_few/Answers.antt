use Rattle.std.proofs.Common.{◌+◌, ◌<◌, ◌≤◌, refl, sym, subst, ◌∙◌, arith}
use Rattle.st_key.specs.declared.key.Key.{Key}
use Rattle.st_key.specs.Key.{IsBefore, rank}
use Rattle.st_key.specs.Period.{bins_of}
use Rattle.st_bigmin.specs.inner.First.{IsFirstFrom}
use Rattle.st_box.specs.Query.{HasKey}
use Rattle.st_index.specs.inner.Fields.{Counts}
use Rattle.st_index.specs.inner.Index.{rows_between}
use Rattle.st_scan.specs.inner.Steps.{rank_or_end}
use Rattle.st_scan.proofs.Counting.{CountedIn, in_all, in_end, in_more, in_none}
use Rattle.st_scan.proofs.Keys.{after_place, bin_below, from_rank, rank_before, rank_from}
use Rattle.st_scan.proofs.few.count_few.Goals as goal

pub keys-init : goal.keys-init
keys-init g c = record {
  counted = in_none c.new-test.result.period (g.F.Fields.query c.args.fields.now) (g.J.Judge.judges c.args.judge.now)
      (g.F.Fields.field_of c.args.fields.now) (g.I.RowIndex.content c.args.index.now) c.args.counts.now c.requires.none;
  same = refl;
}

pub returns-in_default-first_by-clause-counts : goal.returns-in_default-first_by-clause-counts
returns-in_default-first_by-clause-counts g c = λ _.
    let period = c.new-test.result.period in
    let q = g.F.Fields.query c.args.fields.now in
    let judges = g.J.Judge.judges c.args.judge.now in
    let field_of = g.F.Fields.field_of c.args.fields.now in
    let content = g.I.RowIndex.content c.args.index.now in
    let old = c.args.counts.now in
    let start = c.in-Some.start in
    let counted = subst (λ o. CountedIn period q judges field_of content old (rank_or_end period o) c.keys.counts) c.in-Some.is c.keys.invariant.counted in
    let none = subst (λ r. (k : Key) → HasKey r period k → IsBefore k start) (c.new-test.ensures.query ∙ c.query-query.ensures) c.in_default-first_by.ensures.none in
    in_all period q judges field_of content old (rank start) c.keys.counts counted (λ k has. rank_before k start (none k has))

pub keys-preserved : goal.keys-preserved
keys-preserved g c =
    let period = c.new-test.result.period in
    let q = g.F.Fields.query c.args.fields.now in
    let judges = g.J.Judge.judges c.args.judge.now in
    let field_of = g.F.Fields.field_of c.args.fields.now in
    let content = g.I.RowIndex.content c.args.index.now in
    let old = c.args.counts.now in
    let start = c.in-Some.start in
    let key = c.in-Some-first_by.key in
    let at = c.in-Some-count_fields_at.ensures in
    let first = rank c.in-Some-count_fields_at.range.first in
    let last = rank c.in-Some-count_fields_at.range.last in
    let new = c.count_fields_at.new.counts in
    let counted = subst (λ o. CountedIn period q judges field_of content old (rank_or_end period o) c.keys.counts) c.in-Some.is c.keys.invariant.counted in
    let found = subst (λ r. IsFirstFrom r period start key) (c.new-test.ensures.query ∙ c.query-query.ensures) c.in-Some-first_by.ensures.some in
    let judged = subst (λ j. Counts q j field_of (rows_between (g.I.RowIndex.period_of c.args.index.now) first last content) c.keys.counts new) c.keys.invariant.same at.counts in
    let more = subst (λ p. Counts q judges field_of (rows_between p first last content) c.keys.counts new) (sym (c.new-test.ensures.period ∙ c.period.ensures.value)) judged in
    let gap : (k : Key) → HasKey q period k → rank start ≤ rank k → first ≤ rank k = λ k has le.
    (let high = rank_from k key (found.first k has (from_rank k start le)) in omega (arith, high, at.has_key.0)) in
    let next = after_place period c.after-from.result (last + 1) c.after-from.ensures.rank c.after-from.ensures.last in
    record {
      counted = subst (λ n. CountedIn period q judges field_of content old n new) (sym next)
          (in_more period q judges field_of content old (rank start) c.keys.counts counted first last new at.from (omega (arith, at.has_key.0, at.has_key.1)) gap more);
      same = c.count_fields_at.ensures.same ∙ c.keys.invariant.same;
    }

pub returns-clause-counts : goal.returns-clause-counts
returns-clause-counts g c = λ _.
    let period = c.new-test.result.period in
    let q = g.F.Fields.query c.args.fields.now in
    let judges = g.J.Judge.judges c.args.judge.now in
    let field_of = g.F.Fields.field_of c.args.fields.now in
    let content = g.I.RowIndex.content c.args.index.now in
    let old = c.args.counts.now in
    in_end period q judges field_of content old c.keys.counts
    (subst (λ o. CountedIn period q judges field_of content old (rank_or_end period o) c.keys.counts) c.in_default.is c.keys.invariant.counted)

pub after-from-requires : goal.after-from-requires
after-from-requires g c =
    let last = c.in-Some-count_fields_at.range.last in
    subst (λ p. last.bin < bins_of p) (sym (c.new-test.ensures.period ∙ c.period.ensures.value))
    (bin_below last.bin last.address (bins_of (g.I.RowIndex.period_of c.args.index.now)) c.in-Some-count_fields_at.ensures.within)
