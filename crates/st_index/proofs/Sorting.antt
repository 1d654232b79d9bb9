-- Rows in scan order, as sorting by scan keys lists them.
use Rattle.std.proofs.Common.{◌≡◌, ◌%◌, ◌<◌, arith, subst, List, [], ◌∷◌, ◌++◌, filter, Bool, true, false, refl, sym, ap, ◌∙◌}
use Rattle.std.specs.List.{All}
use Rattle.std.specs.Prelude.{IsTrue}
use Rattle.std.proofs.lemmas.List.Elements.{All-head, All-tail, All-cons, All-filter}
use Rattle.st_key.specs.declared.period.Period.{Period}
use Rattle.st_text.specs.Texts.{comes_before, put_in_order, in_order}
use Rattle.st_index.specs.declared.row.Row.{Row}
use Rattle.st_index.specs.Order.{InScanOrder, scan_key}
use Rattle.st_index.specs.inner.Index.{Adds}
use Rattle.st_index.specs.inner.Entries.{key_end, rank_of}
use Rattle.st_key.specs.Period.{seconds_of}
use Rattle.st_key.proofs.MortonLemmas.{joined-lt}
use Rattle.st_key.proofs.PeriodLemmas.{period as lengths}
use Rattle.st_text.proofs.Sorted.{one_before}

-- the key of each point lies before the period's end
pub rank_below : {A : Type 0} (period : Period) (r : Row A) → rank_of period r < key_end period
unfolding rank_of
rank_below period r =
    let w = lengths period in
    let b = w.bin_below r.point.t r.point.t_in_range in
    let a = joined-lt 21 r.point.x r.point.y (r.point.t % seconds_of period) in
    omega (arith, a, b)

module _ {A : Type 0} (period : Period) where
  abbrev Before : Row A → Row A → Type 0
  Before r s = IsTrue (comes_before (scan_key period r) (scan_key period s))

  put_first : (x : Row A) (ys : List (Row A)) → All (λ y. Before x y) ys → put_in_order (scan_key period) x ys ≡ x ∷ ys
  put_first x [] h = refl
  put_first x (y ∷ ys) h =
      let e = one_before (scan_key period x) (scan_key period y) (All-head (λ (s : Row A). Before x s) y ys h) in
      simp e

  pub in_order_already : (xs : List (Row A)) → InScanOrder period xs → in_order (scan_key period) xs ≡ xs
  in_order_already [] h = refl
  in_order_already (x ∷ xs) h = ap (put_in_order (scan_key period) x) (in_order_already xs h.1) ∙ put_first x xs h.0

  pub middle : (fs : List (Row A)) (row : Row A) (back : List (Row A)) (P : Row A → Type 0) → All P (fs ++ row ∷ back) → P row
  middle [] row back P h = All-head P row back h
  middle (f ∷ fs) row back P h = middle fs row back P (All-tail P f (fs ++ row ∷ back) h)

  -- a row put into rows in order stands where the order has it
  put_there : (front : List (Row A)) (row : Row A) (back : List (Row A)) → InScanOrder period (front ++ row ∷ back)
      → put_in_order (scan_key period) row (front ++ back) ≡ front ++ row ∷ back
  put_there [] row back h = put_first row back h.0
  put_there (f ∷ fs) row back h =
      let e = middle fs row back (λ (s : Row A). Before f s) h.0 in
      let ih = put_there fs row back h.1 in
      simp (e, ih)

  pub all_without : (front : List (Row A)) (row : Row A) (back : List (Row A)) (P : Row A → Type 0) → All P (front ++ row ∷ back) → All P (front ++ back)
  all_without [] row back P h = All-tail P row back h
  all_without (f ∷ fs) row back P h =
      All-cons P f (fs ++ back) (All-head P f (fs ++ row ∷ back) h) (all_without fs row back P (All-tail P f (fs ++ row ∷ back) h))

  scan_without : (front : List (Row A)) (row : Row A) (back : List (Row A)) → InScanOrder period (front ++ row ∷ back) → InScanOrder period (front ++ back)
  scan_without [] row back h = h.1
  scan_without (f ∷ fs) row back h = (all_without fs row back (λ (s : Row A). Before f s) h.0, scan_without fs row back h.1)

  pub placed : (front : List (Row A)) (row : Row A) (back : List (Row A)) → InScanOrder period (front ++ row ∷ back)
      → front ++ row ∷ back ≡ in_order (scan_key period) (row ∷ (front ++ back))
  placed front row back h =
      sym (ap (put_in_order (scan_key period) row) (in_order_already (front ++ back) (scan_without front row back h)) ∙ put_there front row back h)

  -- what an index puts in stands where the order has it
  pub added_in_order : (row : Row A) (old new : List (Row A)) → Adds row old new → InScanOrder period new → new ≡ in_order (scan_key period) (row ∷ old)
  added_in_order row old new adds sorted =
      adds.new_is ∙ placed adds.front row adds.back (subst (InScanOrder period) adds.new_is sorted)
      ∙ ap (λ xs. in_order (scan_key period) (row ∷ xs)) (sym adds.old_is)

  pub scan_filter : (p : Row A → Bool) (xs : List (Row A)) → InScanOrder period xs → InScanOrder period (filter p xs)
  scan_filter p [] h = tt
  scan_filter p (x ∷ xs) h = at (p x) refl (scan_filter p xs h.1)
    where
      at : (b : Bool) → p x ≡ b → InScanOrder period (filter p xs) → InScanOrder period (filter p (x ∷ xs))
      at true e ih = simp e (All-filter p (λ (s : Row A). Before x s) xs h.0, ih)
      at false e ih = simp e ih
