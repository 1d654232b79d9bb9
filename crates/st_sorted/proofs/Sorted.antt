-- Searching, putting in and taking out where items stand by their keys.
use Rattle.std.proofs.Common.{◌≡◌, ℕ, zero, suc, ◌<◌, ◌≤◌, List, [], ◌∷◌, map, length, filter, find, Bool, true, false, not, if◌then◌else◌, Option, Some, None, refl, sym, ap, subst, ◌∙◌, arith}
use Rattle.std.specs.Prelude.{slice_index_or, slice_set, is_some}
use Rattle.std.specs.List.{list_any, insert, remove}
use Rattle.std.specs.List.Sorted.{IsPartitionedBy, IsPartitionPoint}
use Rattle.std.specs.Cmp.Lexicographic.{slice_cmp}
use Rattle.std.specs.Ordering.{nat_cmp, is_lt, ordering_reverse}
use Rattle.std.specs.declared.cmp.Ordering.{Ordering}
use Rattle.std.specs.declared.cmp.Ordering.TheVariants.{Less, Equal, Greater}
use Rattle.std.proofs.lemmas.List.Folds.{list_any_at}
use Rattle.std.proofs.lemmas.Cmp.{lists_total, nat_list_cmp_total}
use Rattle.std.proofs.lemmas.Map.Lookups.{exact_bytes}
use Rattle.st_text.specs.Texts.{Text, comes_before, put_in_order, in_order}
use Rattle.st_sorted.specs.Sorted.{ComesFirst, Rises}
use Rattle.st_sorted.specs.inner.Places.{NoneBefore, IsPlace, NoneOf, IsAlone}

pub clash : false ≡ true → ⊥
clash p = cc

abbrev order : List Text → List Text → Ordering
order a b = slice_cmp (slice_cmp nat_cmp) a b

lt_less : (o : Ordering) → is_lt o ≡ true → o ≡ Less
lt_less Less e = refl
lt_less Equal e = absurd (clash e)
lt_less Greater e = absurd (clash e)

pub not_found : {X : Type 0} (found : Option X) → is_some found ≡ false → found ≡ None
not_found None e = refl
not_found (Some x) e = absurd (clash (sym e))

-- ---- keys

pub before_trans : (a b c : List Text) → comes_before a b ≡ true → comes_before b c ≡ true → comes_before a c ≡ true
before_trans a b c e f = ap is_lt ((lists_total nat_list_cmp_total).trans a b c (lt_less (order a b) e) (lt_less (order b c) f))

pub one_before : (a b : List Text) → comes_before a b ≡ true → comes_before b a ≡ false
one_before a b h = at (order a b) (order b a) ((lists_total nat_list_cmp_total).antisymm b a) h
  where
    at : (o p : Ordering) → p ≡ ordering_reverse o → is_lt o ≡ true → is_lt p ≡ false
    at Less p e h = ap is_lt e
    at Equal p e h = absurd (clash h)
    at Greater p e h = absurd (clash h)

pub not_itself : (a : List Text) → comes_before a a ≡ false
not_itself a = at (comes_before a a) refl
  where
    at : (b : Bool) → comes_before a a ≡ b → comes_before a a ≡ false
    at true e = one_before a a e
    at false e = e

pub exact_order : (a b : List Text) → order a b ≡ Equal → a ≡ b
exact_order [] [] e = refl
exact_order [] (y ∷ ys) e = absurd (let h : Less ≡ Equal = e in cc)
exact_order (x ∷ xs) [] e = absurd (let h : Greater ≡ Equal = e in cc)
exact_order (x ∷ xs) (y ∷ ys) e = at (slice_cmp nat_cmp x y) refl (exact_order xs ys)
  where
    at : (o : Ordering) → slice_cmp nat_cmp x y ≡ o → (order xs ys ≡ Equal → xs ≡ ys) → x ∷ xs ≡ y ∷ ys
    at Less f ih = absurd (let h : Less ≡ Equal = simp f at e in cc)
    at Equal f ih = let h : order xs ys ≡ Equal = simp f at e in ap (λ t. t ∷ xs) (exact_bytes x y f) ∙ ap (λ ts. y ∷ ts) (ih h)
    at Greater f ih = absurd (let h : Greater ≡ Equal = simp f at e in cc)

pub other_before : (a b : List Text) → comes_before a b ≡ false → (a ≡ b → ⊥) → comes_before b a ≡ true
other_before a b e apart = at (order a b) refl (order b a) ((lists_total nat_list_cmp_total).antisymm b a)
  where
    at : (o : Ordering) → order a b ≡ o → (p : Ordering) → p ≡ ordering_reverse (order a b) → is_lt p ≡ true
    at Less f p g = absurd (clash (sym e ∙ ap is_lt f))
    at Equal f p g = absurd (apart (exact_order a b f))
    at Greater f p g = ap is_lt (g ∙ ap ordering_reverse f)

-- ---- the search

module _ {X : Type 0} (key : X → List Text) where
  first_at : (x : X) (xs : List X) → ComesFirst key x xs → (j : ℕ) (d : X) → j < length xs → comes_before (key x) (key (slice_index_or xs j d)) ≡ true
  first_at x [] h j d less = absurd (omega arith)
  first_at x (y ∷ ys) h zero d less = h.0
  first_at x (y ∷ ys) h (suc j) d less = first_at x ys h.1 j d (omega arith)

  pub partitioned : (wanted : List Text) (xs : List X) → Rises key xs → IsPartitionedBy (λ y. comes_before (key y) wanted) xs
  partitioned wanted [] h i j d low less e = absurd (omega arith)
  partitioned wanted (x ∷ xs) h zero zero d low less e = e
  partitioned wanted (x ∷ xs) h zero (suc j) d low less e = before_trans (key x) (key (slice_index_or xs j d)) wanted (first_at x xs h.0 j d (omega arith)) e
  partitioned wanted (x ∷ xs) h (suc i) zero d low less e = absurd (omega arith)
  partitioned wanted (x ∷ xs) h (suc i) (suc j) d low less e = partitioned wanted xs h.1 i j d (omega arith) (omega arith) e

  none_before : (wanted : List Text) (xs : List X) → ((k : ℕ) (d : X) → k < length xs → comes_before (key (slice_index_or xs k d)) wanted ≡ false) → NoneBefore key wanted xs
  none_before wanted [] h = tt
  none_before wanted (x ∷ xs) h = (h 0 x (omega arith), none_before wanted xs (λ k d less. h (suc k) d (omega arith)))

  pub place_from : (wanted : List Text) (xs : List X) (i : ℕ) → i ≤ length xs
      → IsPartitionPoint (λ y. comes_before (key y) wanted ≡ true) (λ y. comes_before (key y) wanted ≡ false) xs i → IsPlace key wanted xs i
  place_from wanted xs zero inside h = none_before wanted xs (λ k d less. h.1 k d (omega arith) less)
  place_from wanted [] (suc i) inside h = absurd (omega arith)
  place_from wanted (x ∷ xs) (suc i) inside h =
      (h.0 0 x (omega arith) (omega arith), place_from wanted xs i (omega arith) (λ k d low less. h.0 (suc k) d (omega arith) (omega arith), λ k d low less. h.1 (suc k) d (omega arith) (omega arith)))

  -- where the last key comes before the one wanted, the end is its place
  pub place_at_end : (wanted : List Text) (xs : List X) → Rises key xs
      → ((k : ℕ) (d : X) → suc k ≡ length xs → comes_before (key (slice_index_or xs k d)) wanted ≡ true) → IsPlace key wanted xs (length xs)
  place_at_end wanted [] h last = tt
  place_at_end wanted (x ∷ []) h last = (last 0 x refl, tt)
  place_at_end wanted (x ∷ y ∷ ys) h last =
      let rest = place_at_end wanted (y ∷ ys) h.1 (λ k d e. last (suc k) d (ap suc e)) in (before_trans (key x) (key y) wanted h.0.0 rest.0, rest)

  -- ---- lists in order

  put_first : (x : X) (ys : List X) → ComesFirst key x ys → put_in_order key x ys ≡ x ∷ ys
  put_first x [] h = refl
  put_first x (y ∷ ys) h = let e = one_before (key x) (key y) h.0 in simp e

  pub in_order_already : (xs : List X) → Rises key xs → in_order key xs ≡ xs
  in_order_already [] h = refl
  in_order_already (x ∷ xs) h = ap (put_in_order key x) (in_order_already xs h.1) ∙ put_first x xs h.0

  first_filter : (p : X → Bool) (x : X) (ys : List X) → ComesFirst key x ys → ComesFirst key x (filter p ys)
  first_filter p x [] h = tt
  first_filter p x (y ∷ ys) h = at (p y) refl (first_filter p x ys h.1)
    where
      at : (b : Bool) → p y ≡ b → ComesFirst key x (filter p ys) → ComesFirst key x (filter p (y ∷ ys))
      at true e ih = rw e (h.0, ih)
      at false e ih = rw e ih

  pub rises_filter : (p : X → Bool) (xs : List X) → Rises key xs → Rises key (filter p xs)
  rises_filter p [] h = tt
  rises_filter p (x ∷ xs) h = at (p x) refl (rises_filter p xs h.1)
    where
      at : (b : Bool) → p x ≡ b → Rises key (filter p xs) → Rises key (filter p (x ∷ xs))
      at true e ih = rw e (first_filter p x xs h.0, ih)
      at false e ih = rw e ih

  first_map : (g : X → X) → ((x : X) → key (g x) ≡ key x) → (x : X) (ys : List X) → ComesFirst key x ys → ComesFirst key (g x) (map g ys)
  first_map g same x [] h = tt
  first_map g same x (y ∷ ys) h = (ap (λ k. comes_before k (key (g y))) (same x) ∙ ap (comes_before (key x)) (same y) ∙ h.0, first_map g same x ys h.1)

  pub rises_map : (g : X → X) → ((x : X) → key (g x) ≡ key x) → (xs : List X) → Rises key xs → Rises key (map g xs)
  rises_map g same [] h = tt
  rises_map g same (x ∷ xs) h = (first_map g same x xs h.0, rises_map g same xs h.1)

  -- ---- what stands at a key's place

  module _ (test : X → Bool) where
    module _ (wanted : List Text) (exact : (x : X) → test x ≡ true → key x ≡ wanted) where
      none_behind : (x : X) (ys : List X) → comes_before (key x) wanted ≡ false → ComesFirst key x ys → NoneOf test ys
      none_behind x [] e h = tt
      none_behind x (y ∷ ys) e h = (at (test y) refl, none_behind x ys e h.1)
        where
          at : (b : Bool) → test y ≡ b → test y ≡ false
          at true f = absurd (clash (sym e ∙ (ap (comes_before (key x)) (sym (exact y f)) ∙ h.0)))
          at false f = f

      pub alone : (xs : List X) (i : ℕ) → Rises key xs → IsPlace key wanted xs i → IsAlone test xs i
      alone [] zero h p = tt
      alone (x ∷ xs) zero h p = none_behind x xs p.0 h.0
      alone [] (suc i) h p = p
      alone (x ∷ xs) (suc i) h p = (at (test x) refl, alone xs i h.1 p.1)
        where
          at : (b : Bool) → test x ≡ b → test x ≡ false
          at true f = absurd (clash (sym (not_itself wanted) ∙ (ap (λ k. comes_before k wanted) (sym (exact x f)) ∙ p.0)))
          at false f = f

    pub none_found : (xs : List X) → NoneOf test xs → find test xs ≡ None
    none_found [] h = refl
    none_found (x ∷ xs) h = let e = h.0 in let ih = none_found xs h.1 in simp (e, ih)

    pub none_from_find : (xs : List X) → find test xs ≡ None → NoneOf test xs
    none_from_find [] e = tt
    none_from_find (x ∷ xs) e = at (test x) refl (none_from_find xs)
      where
        some_none : Some x ≡ None → ⊥
        some_none p = cc

        at : (b : Bool) → test x ≡ b → (find test xs ≡ None → NoneOf test xs) → NoneOf test (x ∷ xs)
        at true f ih = let h : Some x ≡ None = simp f at e in absurd (some_none h)
        at false f ih = let h : find test xs ≡ None = simp f at e in (f, ih h)

    pub none_passes : (xs : List X) → NoneOf test xs → list_any test xs ≡ false
    none_passes [] h = refl
    none_passes (x ∷ xs) h = let e = h.0 in let ih = none_passes xs h.1 in simp (e, ih)

    pub none_taken : (xs : List X) → NoneOf test xs → filter (λ x. not (test x)) xs ≡ xs
    none_taken [] h = refl
    none_taken (x ∷ xs) h = let e = h.0 in let ih = none_taken xs h.1 in simp (e, ih)

    pub none_changed : (f : X → X) (xs : List X) → NoneOf test xs → map (λ x. if test x then f x else x) xs ≡ xs
    none_changed f [] h = refl
    none_changed f (x ∷ xs) h = let e = h.0 in let ih = none_changed f xs h.1 in simp (e, ih)

    pub found : (xs : List X) (i : ℕ) (d : X) → IsAlone test xs i → i < length xs → test (slice_index_or xs i d) ≡ true → find test xs ≡ Some (slice_index_or xs i d)
    found [] i d h less e = absurd (omega arith)
    found (x ∷ xs) zero d h less e = simp e
    found (x ∷ xs) (suc i) d h less e = let f = h.0 in let ih = found xs i d h.1 (omega arith) e in simp (f, ih)

    pub absent : (xs : List X) (i : ℕ) → IsAlone test xs i → ((d : X) → i < length xs → test (slice_index_or xs i d) ≡ false) → NoneOf test xs
    absent [] i h e = tt
    absent (x ∷ xs) zero h e = (e x (omega arith), h)
    absent (x ∷ xs) (suc i) h e = (h.0, absent xs i h.1 (λ d less. e d (omega arith)))

    pub any_at : (xs : List X) (i : ℕ) (b : Bool) → IsAlone test xs i → (b ≡ true → i < length xs) → (b ≡ true → (d : X) → test (slice_index_or xs i d) ≡ true)
        → (b ≡ false → (d : X) → i < length xs → test (slice_index_or xs i d) ≡ false) → b ≡ list_any test xs
    any_at [] i true h inside yes_at not_at = let less = inside refl in absurd (omega (less, arith))
    any_at (x ∷ xs) i true h inside yes_at not_at = sym (list_any_at test (x ∷ xs) i x (inside refl) (yes_at refl x))
    any_at xs i false h inside yes_at not_at = sym (none_passes xs (absent xs i h (not_at refl)))

    pub none_from_any : (xs : List X) → list_any test xs ≡ false → NoneOf test xs
    none_from_any [] e = tt
    none_from_any (x ∷ xs) e = at (test x) refl (none_from_any xs)
      where
        at : (b : Bool) → test x ≡ b → (list_any test xs ≡ false → NoneOf test xs) → NoneOf test (x ∷ xs)
        at true f ih = absurd (let h : true ≡ false = simp f at e in cc)
        at false f ih = let h : list_any test xs ≡ false = simp f at e in (f, ih h)

    pub taken_out : (xs : List X) (i : ℕ) (d : X) → IsAlone test xs i → i < length xs → test (slice_index_or xs i d) ≡ true → remove xs i ≡ filter (λ x. not (test x)) xs
    taken_out [] i d h less e = absurd (omega arith)
    taken_out (x ∷ xs) zero d h less e = let ih = none_taken xs h in simp (e, ih)
    taken_out (x ∷ xs) (suc i) d h less e = let f = h.0 in let ih = sym (taken_out xs i d h.1 (omega arith) e) in simp (f, ih)

    -- what is put in is taken out again
    pub back : (w : X) (xs : List X) (i : ℕ) → NoneOf test xs → test w ≡ true → filter (λ x. not (test x)) (insert xs i w) ≡ xs
    back w xs zero n e = let ih = none_taken xs n in simp (e, ih)
    back w [] (suc i) n e = simp e
    back w (x ∷ xs) (suc i) n e = let f = n.0 in let ih = back w xs i n.1 e in simp (f, ih)

    pub changed : (f : X → X) (xs : List X) (i : ℕ) (d : X) → IsAlone test xs i → i < length xs → test (slice_index_or xs i d) ≡ true
        → slice_set xs i (f (slice_index_or xs i d)) ≡ map (λ x. if test x then f x else x) xs
    changed f [] i d h less e = absurd (omega arith)
    changed f (x ∷ xs) zero d h less e = let ih = none_changed f xs h in simp (e, ih)
    changed f (x ∷ xs) (suc i) d h less e = let g = h.0 in let ih = sym (changed f xs i d h.1 (omega arith) e) in simp (g, ih)

  -- ---- putting in

  put_there : (w : X) (xs : List X) (i : ℕ) → IsPlace key (key w) xs i → put_in_order key w xs ≡ insert xs i w
  put_there w [] zero p = refl
  put_there w (x ∷ xs) zero p = let e = p.0 in simp e
  put_there w [] (suc i) p = absurd p
  put_there w (x ∷ xs) (suc i) p = let e = p.0 in let ih = put_there w xs i p.1 in simp (e, ih)

  pub put_in : (w : X) (xs : List X) (i : ℕ) → Rises key xs → IsPlace key (key w) xs i → insert xs i w ≡ in_order key (w ∷ xs)
  put_in w xs i h p = sym (ap (put_in_order key w) (in_order_already xs h) ∙ put_there w xs i p)

  module _ (w : X) (test : X → Bool) (own : (x : X) → key x ≡ key w → test x ≡ true) where
    after : (x : X) → comes_before (key x) (key w) ≡ false → test x ≡ false → comes_before (key w) (key x) ≡ true
    after x e f = other_before (key x) (key w) e (λ k. absurd (clash (sym f ∙ own x k)))

    first_of_none : (xs : List X) → NoneBefore key (key w) xs → NoneOf test xs → ComesFirst key w xs
    first_of_none [] p h = tt
    first_of_none (x ∷ xs) p h = (after x p.0 h.0, first_of_none xs p.1 h.1)

    first_in : (x : X) (xs : List X) (i : ℕ) → comes_before (key x) (key w) ≡ true → ComesFirst key x xs → ComesFirst key x (insert xs i w)
    first_in x xs zero e h = (e, h)
    first_in x [] (suc i) e h = (e, tt)
    first_in x (y ∷ ys) (suc i) e h = (h.0, first_in x ys i e h.1)

    pub rises_in : (xs : List X) (i : ℕ) → Rises key xs → IsPlace key (key w) xs i → NoneOf test xs → Rises key (insert xs i w)
    rises_in xs zero h p n = (first_of_none xs p n, h)
    rises_in [] (suc i) h p n = absurd p
    rises_in (x ∷ xs) (suc i) h p n = (first_in x xs i p.0 h.0, rises_in xs i h.1 p.1 n.1)

    pub rises_either : (b : Bool) (xs new : List X) (i : ℕ) → new ≡ (if b then insert xs i w else xs) → Rises key xs → IsPlace key (key w) xs i → NoneOf test xs → Rises key new
    rises_either true xs new i e h p n = subst (Rises key) (sym e) (rises_in xs i h p n)
    rises_either false xs new i e h p n = subst (Rises key) (sym e) h

    first_put : (x : X) (xs : List X) → comes_before (key x) (key w) ≡ true → ComesFirst key x xs → ComesFirst key x (put_in_order key w xs)
    first_put x [] e h = (e, tt)
    first_put x (y ∷ ys) e h = at (comes_before (key y) (key w)) refl (first_put x ys e h.1)
      where
        at : (b : Bool) → comes_before (key y) (key w) ≡ b → ComesFirst key x (put_in_order key w ys) → ComesFirst key x (put_in_order key w (y ∷ ys))
        at true f ih = rw f (h.0, ih)
        at false f ih = rw f (e, h)

    first_all : (x : X) (xs : List X) → comes_before (key w) (key x) ≡ true → ComesFirst key x xs → ComesFirst key w xs
    first_all x [] e h = tt
    first_all x (y ∷ ys) e h = (before_trans (key w) (key x) (key y) e h.0, first_all x ys e h.1)

    pub rises_put : (xs : List X) → Rises key xs → NoneOf test xs → Rises key (put_in_order key w xs)
    rises_put [] h n = (tt, tt)
    rises_put (x ∷ xs) h n = at (comes_before (key x) (key w)) refl (rises_put xs h.1 n.1)
      where
        at : (b : Bool) → comes_before (key x) (key w) ≡ b → Rises key (put_in_order key w xs) → Rises key (put_in_order key w (x ∷ xs))
        at true f ih = rw f (first_put x xs f h.0, ih)
        at false f ih = let e = after x f n.0 in rw f ((e, first_all x xs e h.0), h)

  pub rises_changed : (test : X → Bool) (f : X → X) → ((x : X) → key (f x) ≡ key x) → (xs : List X) → Rises key xs → Rises key (map (λ x. if test x then f x else x) xs)
  rises_changed test f same xs h = rises_map (λ x. if test x then f x else x) (λ x. at x (test x)) xs h
    where
      at : (x : X) (b : Bool) → key (if b then f x else x) ≡ key x
      at x true = same x
      at x false = refl
