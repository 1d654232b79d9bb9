-- `in_order` sorts.
use Rattle.std.proofs.Common.{◌≡◌, ℕ, zero, suc, ◌<◌, List, [], ◌∷◌, length, Bool, true, false, refl, sym, ap, arith, add-one}
use Rattle.std.proofs.Math.Bool.{true≢false}
use Rattle.std.specs.Prelude.{slice_index_or}
use Rattle.std.specs.List.Sorted.{IsPermutation, IsSortedByKey}
use Rattle.std.proofs.lemmas.List.Sorted.{IsPermutation-cons, IsPermutation-refl, IsPermutation-insert, IsPermutation-trans}
use Rattle.std.specs.Ordering.{nat_cmp, is_lt, ordering_reverse}
use Rattle.std.specs.declared.cmp.Ordering.{Ordering}
use Rattle.std.specs.declared.cmp.Ordering.TheVariants.{Less, Equal, Greater}
use Rattle.std.specs.Cmp.Lexicographic.{slice_cmp}
use Rattle.std.proofs.lemmas.Cmp.{lists_total, nat_list_cmp_total}
use Rattle.st_text.specs.Texts.{Text, comes_before, put_in_order, in_order}

-- of two keys at most one comes before the other
pub one_before : (a b : List Text) → comes_before a b ≡ true → comes_before b a ≡ false
one_before a b h = at (slice_cmp (slice_cmp nat_cmp) a b) (slice_cmp (slice_cmp nat_cmp) b a) ((lists_total nat_list_cmp_total).antisymm b a) h
  where
    at : (o p : Ordering) → p ≡ ordering_reverse o → is_lt o ≡ true → is_lt p ≡ false
    at Less p e h = ap is_lt e
    at Equal p e h = absurd (true≢false (sym h))
    at Greater p e h = absurd (true≢false (sym h))

module _ {X : Type 0} (key : X → List Text) where
  -- no element's key comes before that of the one ahead of it
  abbrev Follow : X → List X → Type 0
  Follow x [] = Unit {0}
  Follow x (y ∷ ys) = (comes_before (key y) (key x) ≡ false) × Follow y ys

  abbrev InOrder : List X → Type 0
  InOrder [] = Unit {0}
  InOrder (x ∷ xs) = Follow x xs

  put_follows : (w x : X) (ys : List X) → Follow w ys → comes_before (key x) (key w) ≡ false → Follow w (put_in_order key x ys)
  put_follows w x [] h e = (e, tt)
  put_follows w x (y ∷ ys) h e = at (comes_before (key y) (key x)) refl (put_follows y x ys h.1)
    where
      at : (b : Bool) → comes_before (key y) (key x) ≡ b → (comes_before (key x) (key y) ≡ false → Follow y (put_in_order key x ys)) → Follow w (put_in_order key x (y ∷ ys))
      at true f ih = rw f (h.0, ih (one_before (key y) (key x) f))
      at false f ih = rw f (e, (f, h.1))

  put_ordered : (x : X) (ys : List X) → InOrder ys → InOrder (put_in_order key x ys)
  put_ordered x [] h = tt
  put_ordered x (y ∷ ys) h = at (comes_before (key y) (key x)) refl
    where
      at : (b : Bool) → comes_before (key y) (key x) ≡ b → InOrder (put_in_order key x (y ∷ ys))
      at true f = rw f (put_follows y x ys h (one_before (key y) (key x) f))
      at false f = rw f (f, h)

  ordered : (xs : List X) → InOrder (in_order key xs)
  ordered [] = tt
  ordered (x ∷ xs) = put_ordered x (in_order key xs) (ordered xs)

  follow_at : (x : X) (xs : List X) → Follow x xs → (k : ℕ) (d : X) → k < length xs → comes_before (key (slice_index_or xs k d)) (key (slice_index_or (x ∷ xs) k d)) ≡ false
  follow_at x [] h k d below = absurd (omega arith)
  follow_at x (y ∷ ys) h zero d below = h.0
  follow_at x (y ∷ ys) h (suc k) d below = follow_at y ys h.1 k d (omega arith)

  by_index : (xs : List X) → InOrder xs → IsSortedByKey key (slice_cmp (slice_cmp nat_cmp)) xs
  by_index [] h k d low below = absurd (omega arith)
  by_index (x ∷ xs) h k d low below = rw add-one (follow_at x xs h k d (omega arith))

  pub in_order-IsSortedByKey : (xs : List X) → IsSortedByKey key (slice_cmp (slice_cmp nat_cmp)) (in_order key xs)
  in_order-IsSortedByKey xs = by_index (in_order key xs) (ordered xs)

  put_permutes : (x : X) (ys : List X) → IsPermutation (x ∷ ys) (put_in_order key x ys)
  put_permutes x [] = IsPermutation-refl (x ∷ [])
  put_permutes x (y ∷ ys) = at (comes_before (key y) (key x)) refl (put_permutes x ys)
    where
      at : (b : Bool) → comes_before (key y) (key x) ≡ b → IsPermutation (x ∷ ys) (put_in_order key x ys) → IsPermutation (x ∷ y ∷ ys) (put_in_order key x (y ∷ ys))
      at true f ih = rw f (IsPermutation-trans (x ∷ y ∷ ys) (y ∷ x ∷ ys) _ (IsPermutation-insert (y ∷ ys) 1 x) (IsPermutation-cons y (x ∷ ys) _ ih))
      at false f ih = rw f (IsPermutation-refl (x ∷ y ∷ ys))

  pub in_order-IsPermutation : (xs : List X) → IsPermutation xs (in_order key xs)
  in_order-IsPermutation [] = IsPermutation-refl []
  in_order-IsPermutation (x ∷ xs) =
      IsPermutation-trans (x ∷ xs) (x ∷ in_order key xs) _ (IsPermutation-cons x xs (in_order key xs) (in_order-IsPermutation xs)) (put_permutes x (in_order key xs))
