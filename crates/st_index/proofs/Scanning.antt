-- Entries whose keys rise hold their rows in scan order.
use Rattle.std.proofs.Common.{◌≡◌, ℕ, ◌+◌, ◌*◌, ◌/◌, ◌%◌, ◌^◌, ◌<◌, ◌≤◌, List, [], ◌∷◌, ◌++◌, get_or, refl, sym, ap, subst, ◌∙◌, arith, true}
use Rattle.std.proofs.lemmas.List.Elements.{All-append, All-cons, All-head, All-tail}
use Rattle.std.specs.List.{All}
use Rattle.std.specs.Prelude.{IsTrue}
use Rattle.std.specs.Cmp.{tied_itself}
use Rattle.std.specs.Cmp.Lexicographic.{slice_cmp, nat_list_cmp_total, lists_total}
use Rattle.std.proofs.Math.Bool.{true≢false}
use Rattle.std.specs.Ordering.{nat_cmp, is_lt, ordering_then}
use Rattle.std.specs.declared.cmp.Ordering.{Ordering}
use Rattle.std.specs.declared.cmp.Ordering.TheVariants.{Less, Equal, Greater}
use Rattle.st_key.specs.declared.key.Key.{Key}
use Rattle.st_key.specs.declared.period.Period.{Period}
use Rattle.st_key.specs.declared.point.Point.{Point}
use Rattle.st_key.specs.Key.{IsKeyOf, rank}
use Rattle.st_key.specs.Morton.{address_of}
use Rattle.st_key.specs.Order.{digits_of}
use Rattle.st_key.specs.Period.{seconds_of}
use Rattle.st_key.proofs.Digits.{digits_by_level}
use Rattle.st_key.proofs.MortonLemmas.{joined-lt}
use Rattle.st_key.proofs.OrderLemmas.{before_by_key}
use Rattle.st_key.proofs.PeriodLemmas.{period as lengths}
use Rattle.st_key.proofs.PointLemmas.{before_by_rank, one_point, same_rank}
use Rattle.st_text.specs.Texts.{comes_before}
use Rattle.st_index.specs.declared.row.Row.{Row}
use Rattle.st_index.specs.inner.Entries.{name_of, EntryValue, NamesRise, EntriesRise, name_cmp, rank_of, rows_of}
use Rattle.st_index.specs.inner.Index.{IsAbsent}
use Rattle.st_index.proofs.Climbing.{all_right}
use Rattle.st_index.specs.Order.{InScanOrder, scan_key}
use Rattle.st_index.proofs.Taking.{rows_from}

record HasKey (period : Period) (p : Point) : Type 0 where
  key : Key
  is : IsKeyOf period p key
  by_rank : rank key ≡ (p.t / seconds_of period) * 2 ^ 63 + address_of p.x p.y (p.t % seconds_of period)

bin_bound : (a b : ℕ) → a < b → b ≤ 229376 → a < 229376
bin_bound a b h k = omega (arith, h, k)

key_for : (period : Period) (p : Point) → HasKey period p
key_for period p =
    let w = lengths period in
    record {
      key = record {
        bin = p.t / seconds_of period;
        address = address_of p.x p.y (p.t % seconds_of period);
        bin_in_range = bin_bound _ _ (w.bin_below p.t p.t_in_range) w.bound;
        address_in_range = joined-lt 21 p.x p.y (p.t % seconds_of period);
      };
      is = record { same_bin = refl; same_address = refl };
      by_rank = refl;
    }

then_less : (o rest : Ordering) → is_lt o ≡ true → is_lt (ordering_then o rest) ≡ true
then_less Less rest h = refl
then_less Equal rest h = cc
then_less Greater rest h = cc

then_named : (o p : Ordering) → ordering_then o p ≡ Less → is_lt (ordering_then o (ordering_then p Equal)) ≡ true
then_named Less p h = refl
then_named Equal Less h = refl
then_named Equal Equal h = cc
then_named Equal Greater h = cc
then_named Greater p h = cc

then_same : (o rest : Ordering) → o ≡ Equal → is_lt rest ≡ true → is_lt (ordering_then o rest) ≡ true
then_same Less rest e h = cc
then_same Equal rest e h = h
then_same Greater rest e h = cc

module _ {A : Type 0} (period : Period) where
  place_is : (r : Row A) → rank_of period r ≡ rank (key_for period r.point).key
  unfolding rank_of
  place_is r = sym (key_for period r.point).by_rank

  digits_less : (r s : Row A) → rank_of period r < rank_of period s → is_lt (slice_cmp nat_cmp (digits_of period r.point) (digits_of period s.point)) ≡ true
  digits_less r s h =
      let k = key_for period r.point in
      let l = key_for period s.point in
      let less : rank k.key < rank l.key = subst (λ n. n < rank l.key) (place_is r) (subst (λ n. rank_of period r < n) (place_is s) h) in
      (digits_by_level period r.point s.point).1 ((before_by_key period r.point s.point k.key l.key k.is l.is).0 ((before_by_rank k.key l.key).1 less))

  digits_same : (r s : Row A) → rank_of period r ≡ rank_of period s → digits_of period r.point ≡ digits_of period s.point
  digits_same r s h =
      let k = key_for period r.point in
      let l = key_for period s.point in
      let e = same_rank k.key l.key (sym (place_is r) ∙ h ∙ place_is s) in
      ap (digits_of period) (one_point period r.point s.point l.key (subst (IsKeyOf period r.point) e k.is) l.is)

  pub before_by_place : (r s : Row A) → rank_of period r < rank_of period s → IsTrue (comes_before (scan_key period r) (scan_key period s))
  before_by_place r s h = then_less _ _ (digits_less r s h)

  pub before_by_name : (r s : Row A) → rank_of period r ≡ rank_of period s → name_cmp (name_of r) (name_of s) ≡ Less → IsTrue (comes_before (scan_key period r) (scan_key period s))
  before_by_name r s h n =
      then_same _ _ (ap (λ d. slice_cmp nat_cmp d (digits_of period s.point)) (digits_same r s h) ∙ tied_itself nat_list_cmp_total (digits_of period s.point))
      (then_named (slice_cmp nat_cmp r.id s.id) (slice_cmp nat_cmp r.label s.label) n)

  scan_rows : (k : ℕ) (rows more : List (Row A)) → NamesRise rows → All (λ r. rank_of period r ≡ k) rows → All (λ r. k + 1 ≤ rank_of period r) more
      → InScanOrder period more → InScanOrder period (rows ++ more)
  scan_rows k [] more named placed later h = h
  scan_rows k (r ∷ rs) more named placed later h =
      let at : rank_of period r ≡ k = All-head (λ s. rank_of period s ≡ k) r rs placed in
      let rest : All (λ s. rank_of period s ≡ k) rs = All-tail (λ s. rank_of period s ≡ k) r rs placed in
      let P : Row A → Type 0 = λ s. IsTrue (comes_before (scan_key period r) (scan_key period s)) in (
        All-append P rs more
            (λ j d l. before_by_name r (get_or rs j d) (at ∙ sym (rest j d l)) (named.0 j d l))
            (λ j d l. before_by_place r (get_or more j d) (let a = later j d l in omega (arith, at, a))),
        scan_rows k rs more named.1 rest later h,
      )

  pub scan_rises : (lo hi : ℕ) (es : List (EntryValue A)) → EntriesRise period lo hi es → InScanOrder period (rows_of es)
  scan_rises lo hi [] h = tt
  scan_rises lo hi (e ∷ es) h = scan_rows e.at e.rows (rows_of es) h.1.named h.1.placed (rows_from period (e.at + 1) hi es h.2) (scan_rises (e.at + 1) hi es h.2)

module _ {A : Type 0} (period : Period) where
  same_scan : (r s : Row A) → rank_of period r ≡ rank_of period s → name_of r ≡ name_of s → IsTrue (comes_before (scan_key period r) (scan_key period s)) → ⊥
  same_scan r s p n h =
      let d = digits_same period r s p in
      let same : scan_key period r ≡ scan_key period s = λ i. d i ∷ (n i).id ∷ (n i).label ∷ [] in
      let tied = tied_itself (lists_total nat_list_cmp_total) (scan_key period s) in
      true≢false (sym h ∙ ap (λ k. comes_before k (scan_key period s)) same ∙ ap is_lt tied)

  -- no other row of a content in scan order has the key and the name of one of its rows
  pub scan_apart : (front : List (Row A)) (row : Row A) (back : List (Row A)) → InScanOrder period (front ++ row ∷ back) → IsAbsent period (rank_of period row) (name_of row) (front ++ back)
  scan_apart [] row back h = λ k d l p n. same_scan row (get_or back k d) (sym p) (sym n) (h.0 k d l)
  scan_apart (r ∷ rs) row back h =
      let P : Row A → Type 0 = λ s. IsTrue (comes_before (scan_key period r) (scan_key period s)) in
      let first : P row = All-head P row back (all_right P rs (row ∷ back) h.0) in
      All-cons (λ s. rank_of period s ≡ rank_of period row → name_of s ≡ name_of row → ⊥) r (rs ++ back) (λ p n. same_scan r row p n first) (scan_apart rs row back h.1)
