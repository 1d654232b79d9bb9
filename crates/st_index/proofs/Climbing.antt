-- Lists whose keys rise, and a search in them.
use Rattle.std.proofs.Common.{◌≡◌, ℕ, ◌+◌, ◌<◌, List, [], ◌∷◌, ◌++◌, length, get_or, take, drop, sym, ap, subst, ◌∙◌, suc, zero, arith, false}
use Rattle.std.proofs.lemmas.List.{get_or-take, get_or-drop, length-take, length-drop}
use Rattle.std.proofs.lemmas.List.Elements.{All-head, All-tail, All-cons, All-append}
use Rattle.std.proofs.lemmas.List.Sorted.{searchable_from_sorted}
use Rattle.std.specs.List.{All, AllWithin}
use Rattle.std.specs.List.Sorted.{IsNonDecreasingBy}
use Rattle.std.specs.declared.cmp.Ordering.{Ordering}
use Rattle.std.specs.declared.cmp.Ordering.TheVariants.{Less, Greater}
use Rattle.std.specs.Ordering.{ordering_index, is_lt, ordering_reverse}
use Rattle.std.specs.Cmp.{IsTotalOrder}
use Rattle.st_index.specs.inner.Entries.{Climbs}

module _ {X : Type 0} (P : X → Type 0) where
  pub all_left : (xs ys : List X) → All P (xs ++ ys) → All P xs
  all_left [] ys h = λ k d l. absurd (omega (arith, l))
  all_left (x ∷ xs) ys h = All-cons P x xs (All-head P x (xs ++ ys) h) (all_left xs ys (All-tail P x (xs ++ ys) h))

  pub all_right : (xs ys : List X) → All P (xs ++ ys) → All P ys
  all_right [] ys h = h
  all_right (x ∷ xs) ys h = all_right xs ys (All-tail P x (xs ++ ys) h)

  pub all_put : (xs : List X) (z : X) (ys : List X) → All P (xs ++ ys) → P z → All P (xs ++ z ∷ ys)
  all_put xs z ys h p = All-append P xs (z ∷ ys) (all_left xs ys h) (All-cons P z ys p (all_right xs ys h))

  pub within_take : (i : ℕ) (xs : List X) → AllWithin P xs 0 i → All P (take i xs)
  within_take i xs h = λ k d l.
      let a : k < i = omega (arith, l, length-take i xs) in
      subst P (sym (get_or-take i xs k d a)) (h k d (omega arith) a)

  pub within_drop : (i : ℕ) (xs : List X) → AllWithin P xs i (length xs) → All P (drop i xs)
  within_drop i xs h = λ k d l.
      subst P (sym (get_or-drop i xs k d)) (h (i + k) d (omega arith) (omega (arith, l, length-drop i xs)))

module _ {X K : Type 0} {R : K → K → Ordering} (o : IsTotalOrder R) (key : X → K) where
  pub climbs_at : (xs : List X) → Climbs R key xs → (i j : ℕ) (d : X) → i < j → j < length xs → R (key (get_or xs i d)) (key (get_or xs j d)) ≡ Less
  climbs_at [] h i j d a b = absurd (omega (arith, b))
  climbs_at (x ∷ xs) h zero zero d a b = absurd (omega (arith, a))
  climbs_at (x ∷ xs) h zero (suc j) d a b = h.0 j d (omega (arith, b))
  climbs_at (x ∷ xs) h (suc i) zero d a b = absurd (omega (arith, a))
  climbs_at (x ∷ xs) h (suc i) (suc j) d a b = climbs_at xs h.1 i j d (omega (arith, a)) (omega (arith, b))

  turned : (a b : Ordering) → a ≡ Less → b ≡ ordering_reverse a → is_lt b ≡ false
  turned a b p q = ap is_lt (q ∙ ap ordering_reverse p)

  pub climbs_search : (xs : List X) → Climbs R key xs → (z : K) → IsNonDecreasingBy (λ y. ordering_index (R (key y) z)) xs
  climbs_search xs h z = searchable_from_sorted o key xs z
      (λ k d a b. turned _ _ (climbs_at xs h k (k + 1) d (omega arith) b) (o.antisymm (key (get_or xs (k + 1) d)) (key (get_or xs k d))))

  -- a new element between those before it and those after it
  pub climbs_put : (xs : List X) (z : X) (ys : List X) → Climbs R key (xs ++ ys) → All (λ x. R (key x) (key z) ≡ Less) xs → All (λ y. R (key y) (key z) ≡ Greater) ys → Climbs R key (xs ++ z ∷ ys)
  climbs_put [] z ys h a b = ((λ k d l. o.antisymm (key z) (key (get_or ys k d)) ∙ ap ordering_reverse (b k d l)), h)
  climbs_put (x ∷ xs) z ys h a b = (
    all_put (λ y. R (key x) (key y) ≡ Less) xs z ys h.0 (All-head (λ y. R (key y) (key z) ≡ Less) x xs a),
    climbs_put xs z ys h.1 (All-tail (λ y. R (key y) (key z) ≡ Less) x xs a) b,
  )

  pub climbs_left : (xs ys : List X) → Climbs R key (xs ++ ys) → Climbs R key xs
  climbs_left [] ys h = tt
  climbs_left (x ∷ xs) ys h = (all_left (λ y. R (key x) (key y) ≡ Less) xs ys h.0, climbs_left xs ys h.1)

  pub climbs_drop : (xs : List X) (z : X) (ys : List X) → Climbs R key (xs ++ z ∷ ys) → Climbs R key (xs ++ ys)
  climbs_drop [] z ys h = h.1
  climbs_drop (x ∷ xs) z ys h = (
    All-append (λ y. R (key x) (key y) ≡ Less) xs ys (all_left (λ y. R (key x) (key y) ≡ Less) xs (z ∷ ys) h.0)
        (All-tail (λ y. R (key x) (key y) ≡ Less) z ys (all_right (λ y. R (key x) (key y) ≡ Less) xs (z ∷ ys) h.0)),
    climbs_drop xs z ys h.1,
  )

  -- another element of the same key in its place
  pub climbs_swap : (xs : List X) (z w : X) (ys : List X) → key z ≡ key w → Climbs R key (xs ++ z ∷ ys) → Climbs R key (xs ++ w ∷ ys)
  climbs_swap [] z w ys e h = (subst (λ n. All (λ y. R n (key y) ≡ Less) ys) e h.0, h.1)
  climbs_swap (x ∷ xs) z w ys e h =
      let P : X → Type 0 = λ y. R (key x) (key y) ≡ Less in
      let rest = all_right P xs (z ∷ ys) h.0 in (
        All-append P xs (w ∷ ys) (all_left P xs (z ∷ ys) h.0) (All-cons P w ys (subst (λ n. R (key x) n ≡ Less) e (All-head P z ys rest)) (All-tail P z ys rest)),
        climbs_swap xs z w ys e h.1,
      )
