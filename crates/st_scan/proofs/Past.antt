-- Rows after a place.
use Rattle.std.proofs.Common.{◌≡◌, ◌<◌, List, filter, get_or, Bool, true, false, ◌&&◌, Option, Some, None, inl, inr, refl, sym, ap, subst, ◌∙◌, arith}
use Rattle.std.specs.Cmp.{tied_itself}
use Rattle.std.specs.Cmp.Lexicographic.{slice_cmp, nat_list_cmp_total}
use Rattle.std.specs.Ordering.{nat_cmp, is_lt, ordering_then, ordering_reverse}
use Rattle.std.specs.declared.cmp.Ordering.{Ordering}
use Rattle.std.specs.declared.cmp.Ordering.TheVariants.{Less, Equal, Greater}
use Rattle.std.proofs.lemmas.Bool.{cases_lt}
use Rattle.st_key.specs.declared.key.Key.{Key}
use Rattle.st_key.specs.declared.period.Period.{Period}
use Rattle.st_key.specs.declared.place.Place.{Place}
use Rattle.st_key.specs.declared.point.Point.{Point}
use Rattle.st_key.specs.Key.{IsKeyOf, rank}
use Rattle.st_key.specs.Order.{digits_of}
use Rattle.st_key.proofs.Digits.{digits_by_level}
use Rattle.st_key.proofs.OrderLemmas.{before_by_key}
use Rattle.st_key.proofs.PointLemmas.{before_by_rank, one_point, same_rank}
use Rattle.st_box.specs.declared.query.Query.{Query}
use Rattle.st_box.specs.Query.{is_inside}
use Rattle.st_index.specs.declared.row.Row.{Row}
use Rattle.st_index.specs.Order.{scan_key}
use Rattle.st_index.specs.inner.Entries.{rank_of}
use Rattle.st_text.specs.Texts.{Text, comes_before}
use Rattle.st_scan.specs.Pages.{is_past, place_key}
use Rattle.st_scan.specs.inner.Pages.{visible_after}
use Rattle.st_scan.specs.inner.Starts.{IsStart, is_shown}
use Rattle.st_scan.specs.inner.Rows.{has_row_from}
use Rattle.st_scan.specs.Visible.{is_visible_inside, is_visible}
use Rattle.st_scan.proofs.Filters.{filter_same, not_true}
use Rattle.st_scan.proofs.Keys.{row_key}
use Rattle.st_scan.proofs.Steps.{from_high, from_low}
use Rattle.st_scan.proofs.Visible.{filter_twice}

lt_less : (o : Ordering) → is_lt o ≡ true → o ≡ Less
lt_less Less h = refl
lt_less Equal h = cc
lt_less Greater h = cc

less_then : (o rest : Ordering) → o ≡ Less → is_lt (ordering_then o rest) ≡ true
less_then Less rest h = refl
less_then Equal rest h = cc
less_then Greater rest h = cc

greater_then : (o rest : Ordering) → o ≡ Greater → is_lt (ordering_then o rest) ≡ false
greater_then Less rest h = cc
greater_then Equal rest h = cc
greater_then Greater rest h = refl

equal_then : (o p q : Ordering) → o ≡ Equal → is_lt (ordering_then o (ordering_then p (ordering_then q Equal))) ≡ is_lt (ordering_then p q)
equal_then Less p q h = cc
equal_then Equal Less q h = refl
equal_then Equal Greater q h = refl
equal_then Equal Equal Less h = refl
equal_then Equal Equal Equal h = refl
equal_then Equal Equal Greater h = refl
equal_then Greater p q h = cc

and_false : (b : Bool) → (b && false) ≡ false
and_false true = refl
and_false false = refl

swap_tests : (a b c : Bool) → (a && (b && c)) ≡ ((a && c) && b)
swap_tests true true true = refl
swap_tests true true false = refl
swap_tests true false true = refl
swap_tests true false false = refl
swap_tests false b c = refl

module _ (w : Period) (p r : Point) (k l : Key) (at : IsKeyOf w p k) (own : IsKeyOf w r l) where
  digits_less : rank k < rank l → slice_cmp nat_cmp (digits_of w p) (digits_of w r) ≡ Less
  digits_less h = lt_less _ ((digits_by_level w p r).1 ((before_by_key w p r k l at own).0 ((before_by_rank k l).1 h)))

  digits_same : rank k ≡ rank l → slice_cmp nat_cmp (digits_of w p) (digits_of w r) ≡ Equal
  digits_same h =
      let e = one_point w p r l (subst (IsKeyOf w p) (same_rank k l h) at) own in
      ap (λ t. slice_cmp nat_cmp (digits_of w t) (digits_of w r)) e ∙ tied_itself nat_list_cmp_total (digits_of w r)

module _ {A B : Type 0} (w : Period) (place : Place B) (row : Row A) (k : Key) (at : IsKeyOf w place.point k) where
  pub past_before : rank k < rank_of w row → comes_before (place_key w place) (scan_key w row) ≡ true
  past_before h =
      let r = row_key w row in
      less_then _ _ (digits_less w place.point row.point k r.key at r.is (subst (λ n. rank k < n) (sym r.by_rank) h))

  pub past_after : rank_of w row < rank k → comes_before (place_key w place) (scan_key w row) ≡ false
  past_after h =
      let r = row_key w row in
      let less = digits_less w row.point place.point r.key k r.is at (subst (λ n. n < rank k) (sym r.by_rank) h) in
      greater_then _ _ (nat_list_cmp_total.antisymm (digits_of w place.point) (digits_of w row.point) ∙ ap ordering_reverse less)

  pub past_same : rank k ≡ rank_of w row → comes_before (place_key w place) (scan_key w row) ≡ is_lt (ordering_then (slice_cmp nat_cmp place.id row.id) (slice_cmp nat_cmp place.label row.label))
  past_same h =
      let r = row_key w row in
      equal_then _ _ _ (digits_same w place.point row.point k r.key at r.is (h ∙ sym r.by_rank))

module _ {A B : Type 0} (w : Period) (q : Query) (auths : List Text) (after : Option (Place B)) where
  early : (k : Key) → IsStart w after k → (row : Row A) → rank_of w row < rank k → is_past w after row ≡ false
  early k start row low = elim after as (λ o. IsStart w o k → is_past w o row ≡ false) [
    | None ↦ λ s. absurd (omega (arith, s, low))
    | Some place ↦ λ s. past_after w place row k s low
  ] start

  one_row : (k : Key) → IsStart w after k → (row : Row A) → (has_row_from w q (rank k) row && is_shown w after auths row) ≡ (is_visible_inside q auths row && is_past w after row)
  one_row k start row = elim (cases_lt (rank_of w row) (rank k)) [
    | inl low ↦
        let out = early k start row low in
        ap (λ b. b && is_shown w after auths row) (not_true (has_row_from w q (rank k) row) (from_low w q (rank k) row low))
        ∙ sym (ap (λ b. is_visible_inside q auths row && b) out ∙ and_false (is_visible_inside q auths row))
    | inr high ↦
        ap (λ b. b && is_shown w after auths row) (from_high w q (rank k) row high)
        ∙ swap_tests (is_inside q row.point) (is_past w after row) (is_visible auths row)
  ]

  -- the rows shown are those that a walk from the place's key meets, of the rows that are seen
  pub shown_after : (k : Key) → IsStart w after k → (content : List (Row A)) → filter (is_shown w after auths) (filter (has_row_from w q (rank k)) content) ≡ visible_after w q auths after content
  shown_after k start content =
      filter_twice (is_shown w after auths) (has_row_from w q (rank k)) content
      ∙ filter_same _ _ content (λ i d l. one_row k start (get_or content i d))
      ∙ sym (filter_twice (is_past w after) (is_visible_inside q auths) content)

  -- the same for what a page finds: its period, the authorizations of its verdicts, and what its walk gives
  pub shown_on : (p : Period) (names : List Text) (k : Key) (content left : List (Row A)) → p ≡ w → IsStart p after k
      → left ≡ filter (has_row_from w q (rank k)) content → names ≡ auths
      → filter (is_shown p after names) left ≡ visible_after w q auths after content
  shown_on p names k content left period start walked asked =
      ap (λ v. filter (is_shown v after names) left) period ∙ ap (λ xs. filter (is_shown w after xs) left) asked
      ∙ ap (filter (is_shown w after auths)) walked ∙ shown_after k (subst (λ v. IsStart v after k) period start) content
