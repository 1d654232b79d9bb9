-- What a stable sort by labels makes of a list.
use Rattle.std.proofs.Common.{◌≡◌, ℕ, suc, ◌+◌, ◌<◌, List, [], ◌∷◌, ◌++◌, length, get_or, filter, map, Bool, true, false, not, ◌&&◌, refl, sym, ap, ◌∙◌, subst, arith}
use Rattle.std.specs.Cmp.{IsStrictWeakOrder, tied_itself}
use Rattle.std.specs.Cmp.Lexicographic.{slice_cmp, nat_list_cmp_total}
use Rattle.std.specs.List.Sorted.{IsSortedBy, IsStableBy, ties}
use Rattle.std.specs.Ordering.{nat_cmp, is_lt, ordering_reverse, ordering_then}
use Rattle.std.specs.declared.cmp.Ordering.{Ordering}
use Rattle.std.specs.declared.cmp.Ordering.TheVariants.{Less, Equal, Greater}
use Rattle.std.proofs.lemmas.List.Elements.{filter-append as filter_append}
use Rattle.std.proofs.lemmas.List.Sorted.{ranks_by, sorted_far}
use Rattle.std.proofs.lemmas.Map.Lookups.{exact_bytes}
use Rattle.st_text.specs.Texts.{Text, comes_before, put_in_order, in_order}
use Rattle.st_text.proofs.Resorting.{Apart, R, in_order_anywhere}

abbrev C : Text → Text → Ordering
C = slice_cmp nat_cmp

abbrev less : Text → Text → Bool
less l m = is_lt (C l m)

-- whether two labels are the same, as a sort sees them
abbrev tie : Text → Text → Bool
tie l m = not (less l m) && not (less m l)

clash : false ≡ true → ⊥
clash p = cc

tie_itself : (l : Text) → tie l l ≡ true
tie_itself l = let p = tied_itself nat_list_cmp_total l in simp p

tie_same : (l m : Text) → tie l m ≡ true → l ≡ m
tie_same l m h = at (C l m) refl (C m l) (nat_list_cmp_total.antisymm m l) h
  where
    at : (o : Ordering) → C l m ≡ o → (p : Ordering) → p ≡ ordering_reverse (C l m) → (not (is_lt o) && not (is_lt p)) ≡ true → l ≡ m
    at Equal e p f h = exact_bytes l m e
    at Less e p f h = cc
    at Greater e p f h = let q : p ≡ Less = f ∙ ap ordering_reverse e in absurd (clash (sym (ap (λ r. not (is_lt r)) q) ∙ h))

same_tie : (l m : Text) → l ≡ m → tie l m ≡ true
same_tie l m e = subst (λ t. tie l t ≡ true) e (tie_itself l)

before_less : (l m : Text) → comes_before (l ∷ []) (m ∷ []) ≡ less l m
before_less l m = at (C l m)
  where
    at : (o : Ordering) → is_lt (ordering_then o Equal) ≡ is_lt o
    at Less = refl
    at Equal = refl
    at Greater = refl

module _ {X : Type 0} (label : X → Text) where
  abbrev by : X → List Text
  by x = label x ∷ []

  abbrev lt : X → X → Bool
  lt x y = less (label x) (label y)

  abbrev of : X → X → Bool
  of = ties lt

  same_by : (x y : X) → R (by x) (by y) ≡ Equal → label x ≡ label y
  same_by x y h = at (C (label x) (label y)) refl h
    where
      at : (o : Ordering) → C (label x) (label y) ≡ o → ordering_then o Equal ≡ Equal → label x ≡ label y
      at Equal e h = exact_bytes (label x) (label y) e
      at Less e h = cc
      at Greater e h = cc

  filter_yes : (f : X → Bool) (x : X) (xs : List X) → f x ≡ true → filter f (x ∷ xs) ≡ x ∷ filter f xs
  filter_yes f x xs e = simp e

  filter_no : (f : X → Bool) (x : X) (xs : List X) → f x ≡ false → filter f (x ∷ xs) ≡ filter f xs
  filter_no f x xs e = simp e

  apart : (x : X) (ys : List X) → filter (of x) ys ≡ [] → Apart by x ys
  apart x [] none = tt
  apart x (y ∷ ys) none = at (of x y) refl (apart x ys)
    where
      cons_nil : (zs : List X) → y ∷ zs ≡ [] → ⊥
      cons_nil zs p = cc

      at : (b : Bool) → of x y ≡ b → (filter (of x) ys ≡ [] → Apart by x ys) → Apart by x (y ∷ ys)
      at true e ih = absurd (cons_nil (filter (of x) ys) (sym (filter_yes (of x) y ys e) ∙ none))
      at false e ih = (λ q. clash (sym e ∙ same_tie (label x) (label y) (sym (same_by y x q))), ih (sym (filter_no (of x) y ys e) ∙ none))

  -- none of a list comes before an element
  abbrev Least : X → List X → Type 0
  Least x [] = Unit {0}
  Least x (y ∷ ys) = (lt y x ≡ false) × Least x ys

  put_least : (x : X) (xs : List X) → Least x xs → put_in_order by x xs ≡ x ∷ xs
  put_least x [] h = refl
  put_least x (y ∷ ys) h = let e : comes_before (by y) (by x) ≡ false = before_less (label y) (label x) ∙ h.0 in simp e

  abbrev Sorted : List X → Type 0
  Sorted [] = Unit {0}
  Sorted (x ∷ xs) = Least x xs × Sorted xs

  least_of : (x : X) (xs : List X) → ((j : ℕ) (d : X) → j < length xs → lt (get_or xs j d) x ≡ false) → Least x xs
  least_of x [] h = tt
  least_of x (y ∷ ys) h = (h 0 y (omega arith), least_of x ys (λ j d l. h (suc j) d (omega (arith, l))))

  tail_sorted : (x : X) (xs : List X) → IsSortedBy lt (x ∷ xs) → IsSortedBy lt xs
  tail_sorted x xs h k d low high =
      let p : suc k + 1 ≡ suc (k + 1) = omega arith in
      subst (λ n. lt (get_or (x ∷ xs) n d) (get_or (x ∷ xs) (suc k) d) ≡ false) p (h (suc k) d (omega arith) (omega (arith, high)))

  order : IsStrictWeakOrder lt
  order = ranks_by nat_list_cmp_total label

  sorted_of : (xs : List X) → IsSortedBy lt xs → Sorted xs
  sorted_of [] h = tt
  sorted_of (x ∷ xs) h = (
    least_of x xs (λ j d l. sorted_far lt order (x ∷ xs) h 0 (suc j) d (omega arith) (omega (arith, l))),
    sorted_of xs (tail_sorted x xs h),
  )

  -- the first element that passes a test, and what stands before and after it
  record First (f : X → Bool) (zs : List X) (x : X) (rest : List X) : Type 0 where
    front : List X
    back : List X
    is : zs ≡ front ++ x ∷ back
    none : filter f front ≡ []
    others : filter f back ≡ rest

  first : (f : X → Bool) (zs : List X) (x : X) (rest : List X) → filter f zs ≡ x ∷ rest → First f zs x rest
  first f [] x rest h = absurd (nil_cons h)
    where
      nil_cons : [] ≡ x ∷ rest → ⊥
      nil_cons p = cc
  first f (z ∷ zs) x rest h = at (f z) refl (first f zs x rest)
    where
      parts : (ys : List X) → z ∷ ys ≡ x ∷ rest → (z ≡ x) × (ys ≡ rest)
      parts ys p = (cc, cc)

      at : (b : Bool) → f z ≡ b → (filter f zs ≡ x ∷ rest → First f zs x rest) → First f (z ∷ zs) x rest
      at true e ih =
          let p = parts (filter f zs) (sym (filter_yes f z zs e) ∙ h) in
          record { front = []; back = zs; is = ap (λ y. y ∷ zs) p.0; none = refl; others = p.1 }
      at false e ih =
          let o = ih (sym (filter_no f z zs e) ∙ h) in
          record { front = z ∷ o.front; back = o.back; is = ap (λ ys. z ∷ ys) o.is; none = filter_no f z o.front e ∙ o.none; others = o.others }

  all_gone : (zs : List X) → ((e : X) → [] ≡ filter (of e) zs) → zs ≡ []
  all_gone [] h = refl
  all_gone (z ∷ zs) h = absurd (nil_cons (filter (of z) zs) (h z ∙ filter_yes (of z) z zs (tie_itself (label z))))
    where
      nil_cons : (ys : List X) → [] ≡ z ∷ ys → ⊥
      nil_cons ys p = cc

  module _ (x : X) (xs zs : List X) (least : Least x xs) (each : (e : X) → filter (of e) (x ∷ xs) ≡ filter (of e) zs) where
    o : First (of x) zs x (filter (of x) xs)
    o = first (of x) zs x (filter (of x) xs) (sym (each x) ∙ filter_yes (of x) x xs (tie_itself (label x)))

    tails : (ys ws : List X) → x ∷ ys ≡ x ∷ ws → ys ≡ ws
    tails ys ws p = cc

    others : (e : X) (b : Bool) → of e x ≡ b → filter (of e) xs ≡ filter (of e) (o.front ++ o.back)
    others e true h =
        let same : label x ≡ label e = sym (tie_same (label e) (label x) h) in
        let none : filter (of e) o.front ≡ [] = subst (λ l. filter (λ y. tie l (label y)) o.front ≡ []) same o.none in
        tails (filter (of e) xs) (filter (of e) (o.front ++ o.back))
        (sym (filter_yes (of e) x xs h) ∙ each e ∙ ap (filter (of e)) o.is ∙ filter_append (of e) o.front (x ∷ o.back)
        ∙ ap (λ ys. ys ++ filter (of e) (x ∷ o.back)) none ∙ filter_yes (of e) x o.back h
        ∙ ap (λ ys. x ∷ ys) (sym (filter_append (of e) o.front o.back ∙ ap (λ ys. ys ++ filter (of e) o.back) none)))
    others e false h =
        sym (filter_no (of e) x xs h) ∙ each e ∙ ap (filter (of e)) o.is ∙ filter_append (of e) o.front (x ∷ o.back)
        ∙ ap (λ ys. filter (of e) o.front ++ ys) (filter_no (of e) x o.back h) ∙ sym (filter_append (of e) o.front o.back)

    sorted_step : ((ys : List X) → ((e : X) → filter (of e) xs ≡ filter (of e) ys) → in_order by ys ≡ xs) → in_order by zs ≡ x ∷ xs
    sorted_step ih =
        ap (in_order by) o.is ∙ in_order_anywhere by o.front x o.back (apart x o.front o.none)
        ∙ ap (put_in_order by x) (ih (o.front ++ o.back) (λ e. others e (of e x) refl)) ∙ put_least x xs least

  sorted_is : (xs zs : List X) → Sorted xs → ((e : X) → filter (of e) xs ≡ filter (of e) zs) → in_order by zs ≡ xs
  sorted_is [] zs h each = ap (in_order by) (all_gone zs each)
  sorted_is (x ∷ xs) zs h each = sorted_step x xs zs h.0 each (λ ys same_rows. sorted_is xs ys h.1 same_rows)

  -- a stable sort puts a list in order
  pub stably_sorted : (zs xs : List X) → IsSortedBy lt xs → IsStableBy lt zs xs → xs ≡ in_order by zs
  stably_sorted zs xs sorted stable = sym (sorted_is xs zs (sorted_of xs sorted) stable)

module _ {X Y : Type 0} (f : X → Y) (key : Y → List Text) where
  map_put : (x : X) (xs : List X) → map f (put_in_order (λ z. key (f z)) x xs) ≡ put_in_order key (f x) (map f xs)
  map_put x [] = refl
  map_put x (y ∷ ys) = at (comes_before (key (f y)) (key (f x))) refl (map_put x ys)
    where
      at : (b : Bool) → comes_before (key (f y)) (key (f x)) ≡ b → map f (put_in_order (λ z. key (f z)) x ys) ≡ put_in_order key (f x) (map f ys)
          → map f (put_in_order (λ z. key (f z)) x (y ∷ ys)) ≡ put_in_order key (f x) (map f (y ∷ ys))
      at true e ih = simp (e, ih)
      at false e ih = simp e

  pub map_in_order : (xs : List X) → map f (in_order (λ z. key (f z)) xs) ≡ in_order key (map f xs)
  map_in_order [] = refl
  map_in_order (x ∷ xs) = map_put x (in_order (λ z. key (f z)) xs) ∙ ap (put_in_order key (f x)) (map_in_order xs)
