use Rattle.std.proofs.Common.{◌≡◌, ℕ, ◌+◌, ◌<◌, ◌≤◌, length, sym, ap, subst, ◌∙◌, arith}
use Rattle.std.proofs.lemmas.Bool.{ltb-false}
use Rattle.st_key.specs.declared.period.Period.{Period}
use Rattle.st_key.specs.Key.{rank}
use Rattle.st_index.specs.inner.ListValue.{ListValue}
use Rattle.st_index.specs.inner.Fields.{CanAdd, Counts}
use Rattle.st_index.specs.inner.Index.{rows_between, rows_from}
use Rattle.st_index.specs.inner.Entries.{key_end, rows_of}
use Rattle.st_index.proofs.Ranges.{between_all, from_all}
use Rattle.st_index.proofs.Taking.{rows_below}
use Rattle.st_index.proofs.list_index.ListIndexRowIndex.count_fields_at.Goals as goal

-- the last key is before the period's end, and no key is behind it
in_range : (inside period : Period) (key last : ℕ) → last + 1 ≡ key_end inside → inside ≡ period → key < key_end period → (0 ≤ key) × (key ≤ last)
in_range inside period key last end same lt = (omega arith, omega (arith, end, ap key_end same, lt))

ends_below : (inside period : Period) (last : ℕ) → last + 1 ≡ key_end inside → inside ≡ period → last < key_end period
ends_below inside period last end same = omega (arith, end, ap key_end same)

pub count-requires-clause-fits : goal.count-requires-clause-fits
count-requires-clause-fits g c =
    let p = c.self.inside.period in
    let rows = rows_of c.self.inside.entries.items in
    let low : rank c.args.from ≤ 0 = ltb-false 0 (rank c.args.from) (sym c.is_before.ensures ∙ c.if-is_before.false) in
    let all : rows_from p (rank c.args.from) rows ≡ rows = from_all p (rank c.args.from) rows (λ k d l. omega (arith, low)) in
    let fits : CanAdd (length (rows_from p (rank c.args.from) rows)) c.args.counts.now = rw (← c.self.view_is) at c.requires.fits in
    subst (λ rs. CanAdd (length rs) c.args.counts.now) (all ∙ ap rows_of (sym c.deref.ensures.value)) fits

pub returns-clause-counts : goal.returns-clause-counts
returns-clause-counts g c =
    let p = c.self.inside.period in
    let rows = rows_of c.self.inside.entries.items in
    let end : rank c.last-last.result + 1 ≡ key_end p = c.last-last.ensures.rank in
    let below = rows_below p 0 (key_end p) c.self.inside.entries.items c.self.invariant.0 in
    let all : rows_between p 0 (rank c.last-last.result) rows ≡ rows = between_all p 0 (rank c.last-last.result) rows
    (λ k d l. omega arith) (λ k d l. let b = below k d l in omega (arith, b, end)) in
    rw (← c.self.view_is) (subst (λ rs. Counts (g.F.Fields.query c.args.fields.now) (g.J.Judge.judges c.args.judge.now) (g.F.Fields.field_of c.args.fields.now) rs c.args.counts.now c.count.new.counts)
    (ap rows_of c.deref.ensures.value ∙ sym all) c.count.ensures.counts)

pub returns-clause-has_key : goal.returns-clause-has_key
returns-clause-has_key g c =
    in_range c.self.inside.period c.args.self.now.period (rank c.args._key) (rank c.last-last.result) c.last-last.ensures.rank
    (ap (λ (v : ListValue g.row.A.Denot). v.period) c.self.view_is) c.requires.key

pub returns-clause-within : goal.returns-clause-within
returns-clause-within g c =
    ends_below c.self.inside.period c.args.self.now.period (rank c.last-last.result) c.last-last.ensures.rank (ap (λ (v : ListValue g.row.A.Denot). v.period) c.self.view_is)
