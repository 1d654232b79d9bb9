use Rattle.std.proofs.Common.{◌≡◌, ℕ, ◌<◌, ◌^◌, ◌++◌, ◌∙◌, Bool, true, false, ◌&&◌, filter, get_or, map, nat_eq, refl, sym, ap, subst, arith}
use Rattle.st_text.specs.Texts.{Text, same}
use Rattle.st_text.proofs.Same.{same-eq}
use Rattle.st_index.specs.declared.row.Row.{Row}
use Rattle.st_index.specs.RowViews.{row_of_view}
use Rattle.st_index.specs.inner.Entries.{key_end, rank_of}
use Rattle.st_table.specs.inner.Found.{is_shown_of}
use Rattle.st_table.specs.inner.Places.{hash_of}
use Rattle.st_table.proofs.Ascending.{all_keys, next_key, no_keys}
use Rattle.st_table.proofs.Standing.{none_of_id, of_any, of_period, ranks_below}
use Rattle.st_table.proofs.lookup.shown.Goals as goal

of_id : {A : Type 0} (id : Text) (auths : _) (r : Row A) → is_shown_of id auths r ≡ true → r.id ≡ id
of_id id auths r h = same-eq r.id id (first (same r.id id) _ h)
  where
    first : (a b : Bool) → (a && b) ≡ true → a ≡ true
    first true b h = refl
    first false b h = cc

pub ranks-init : goal.ranks-init
ranks-init g c = (
  omega arith,
  ap (map row_of_view) c.new-rows.ensures.items
      ∙ no_keys (g.I.RowIndex.period_of c.args.index.now) (is_shown_of c.args.id.now c.args.auths.now) (g.I.RowIndex.content c.args.index.now),
)

pub key_at-requires : goal.key_at-requires
key_at-requires g c =
    of_any c.args.places.now.seed (g.I.RowIndex.period_of c.args.index.now) c.args.places.now.numbers (g.I.RowIndex.content c.args.index.now) c.requires
    c.in_ok-keys.keys.numbers c.hash-hash.result c.in_ok-keys.ensures.no_more c.in-Some.found c.in-Some.ensures.in_range c.in-Some.ensures.held

pub rows_at-requires : goal.rows_at-requires
rows_at-requires g c =
    subst (λ n. n < key_end (g.I.RowIndex.period_of c.args.index.now)) (sym c.key_at.ensures)
    (of_period c.args.places.now.seed (g.I.RowIndex.period_of c.args.index.now) c.args.places.now.numbers (g.I.RowIndex.content c.args.index.now) c.requires
    c.in_ok-keys.keys.numbers c.hash-hash.result c.in_ok-keys.ensures.no_more c.in-Some.found c.in-Some.ensures.in_range c.in-Some.ensures.held)

pub ranks-preserved : goal.ranks-preserved
ranks-preserved g c =
    let R = Row g.row.I-Alloc.Denot in
    let seed = c.args.places.now.seed in
    let period = g.I.RowIndex.period_of c.args.index.now in
    let rows = g.I.RowIndex.content c.args.index.now in
    let id = c.args.id.now in
    let p : R → Bool = is_shown_of id c.args.auths.now in
    let found = c.in-Some.found in
    let stands : ℕ → R → Bool = λ n r. nat_eq (rank_of period r) n in
    let below : found < 2 ^ 81 = c.in-Some.ensures.in_range in
    let own : c.hash-hash.result ≡ hash_of seed id = c.hash-hash.ensures.value ∙ ap (λ s. hash_of s id) c.seed.ensures in
    let view = c.rows_at.ensures ∙ ap (λ n. filter (stands n) rows) c.key_at.ensures in (
      omega (arith, below),
      c.in_ok-push_shown.ensures ∙ ap (λ xs. map row_of_view c.ranks.rows.items ++ filter p xs) view
          ∙ ap (λ xs. xs ++ filter p (filter (stands found) rows)) c.ranks.invariant.1
          ∙ next_key period p c.ranks.low found rows c.period.ensures.lawful.in_order c.in-Some.ensures.later
          (λ i d l e. none_of_id seed period c.args.places.now.numbers rows c.requires c.in_ok-keys.keys.numbers c.hash-hash.result c.in_ok-keys.ensures.all
          id own c.ranks.low found c.in-Some.ensures.first i d l (of_id id c.args.auths.now (get_or rows i d) e)),
    )

pub returns : goal.returns
returns g c =
    let R = Row g.row.I-Alloc.Denot in
    let seed = c.args.places.now.seed in
    let period = g.I.RowIndex.period_of c.args.index.now in
    let rows = g.I.RowIndex.content c.args.index.now in
    let id = c.args.id.now in
    let p : R → Bool = is_shown_of id c.args.auths.now in
    let own : c.hash-hash.result ≡ hash_of seed id = c.hash-hash.ensures.value ∙ ap (λ s. hash_of s id) c.seed.ensures in
    c.ranks.invariant.1 ∙ all_keys period p c.ranks.low rows
    (λ i d l e from. none_of_id seed period c.args.places.now.numbers rows c.requires c.in_ok-keys.keys.numbers c.hash-hash.result c.in_ok-keys.ensures.all
    id own c.ranks.low (2 ^ 81) c.in_default.ensures.none i d l (of_id id c.args.auths.now (get_or rows i d) e) from
    (ranks_below period (get_or rows i d)))
