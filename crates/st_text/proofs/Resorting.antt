-- A list in the order of its keys: what filters and new elements make of it.
use Rattle.std.proofs.Common.{◌≡◌, List, [], ◌∷◌, ◌++◌, filter, Bool, true, false, refl, sym, ap, ◌∙◌}
use Rattle.std.specs.Cmp.Lexicographic.{slice_cmp}
use Rattle.std.proofs.lemmas.Cmp.{lists_total, nat_list_cmp_total}
use Rattle.std.specs.Ordering.{nat_cmp, is_lt, ordering_reverse}
use Rattle.std.specs.declared.cmp.Ordering.{Ordering}
use Rattle.std.specs.declared.cmp.Ordering.TheVariants.{Less, Equal, Greater}
use Rattle.st_text.specs.Texts.{Text, comes_before, put_in_order, in_order}
use Rattle.st_text.proofs.Sorted.{one_before}

abbrev pub R : List Text → List Text → Ordering
R = slice_cmp (slice_cmp nat_cmp)

pub turned : (a b : List Text) → R b a ≡ ordering_reverse (R a b)
turned a b = (lists_total nat_list_cmp_total).antisymm b a

clash : true ≡ false → ⊥
clash p = cc

-- of two keys that differ the one comes first or the other does
some_before : (a b : List Text) → (R a b ≡ Equal → ⊥) → comes_before a b ≡ false → comes_before b a ≡ true
some_before a b ne h = at (R a b) refl (R b a) (turned a b) h
  where
    at : (o : Ordering) → R a b ≡ o → (p : Ordering) → p ≡ ordering_reverse o → is_lt o ≡ false → is_lt p ≡ true
    at Less f p e h = cc
    at Equal f p e h = absurd (ne f)
    at Greater f p e h = ap is_lt e

-- what comes before b and not before a has a before b
before_more : (a b c : List Text) → comes_before c a ≡ false → comes_before c b ≡ true → comes_before a b ≡ true
before_more a b c h k = at (R c a) refl (R c b) refl h k
  where
    at : (o : Ordering) → R c a ≡ o → (p : Ordering) → R c b ≡ p → is_lt o ≡ false → is_lt p ≡ true → comes_before a b ≡ true
    at Equal e Less f h k = ap is_lt (sym ((lists_total nat_list_cmp_total).congr c a b e) ∙ f)
    at Greater e Less f h k = ap is_lt ((lists_total nat_list_cmp_total).trans a c b (turned c a ∙ ap ordering_reverse e) f)
    at Less e p f h k = cc
    at o e Equal f h k = cc
    at o e Greater f h k = cc

-- the one comes first, where the other does not
other_before : (a b : List Text) → (R a b ≡ Equal → ⊥) → comes_before b a ≡ false → comes_before a b ≡ true
other_before a b ne h = at (comes_before a b) refl
  where
    at : (c : Bool) → comes_before a b ≡ c → comes_before a b ≡ true
    at true f = f
    at false f = absurd (clash (sym (some_before a b ne f) ∙ h))

module _ {X : Type 0} (key : X → List Text) where
  abbrev put : X → List X → List X
  put = put_in_order key

  -- the order of two puts of differing keys is free
  pub put_swap : (x y : X) (zs : List X) → (R (key x) (key y) ≡ Equal → ⊥) → put x (put y zs) ≡ put y (put x zs)
  put_swap x y [] ne = at (comes_before (key y) (key x)) refl
    where
      at : (b : Bool) → comes_before (key y) (key x) ≡ b → put x (y ∷ []) ≡ put y (x ∷ [])
      at true e = let f = one_before (key y) (key x) e in simp (e, f)
      at false e = let f = other_before (key x) (key y) ne e in simp (e, f)
  put_swap x y (z ∷ zs) ne = at (comes_before (key z) (key y)) refl (comes_before (key z) (key x)) refl (put_swap x y zs ne)
    where
      at : (b : Bool) → comes_before (key z) (key y) ≡ b → (c : Bool) → comes_before (key z) (key x) ≡ c → put x (put y zs) ≡ put y (put x zs)
          → put x (put y (z ∷ zs)) ≡ put y (put x (z ∷ zs))
      at true e true f ih = simp (e, f, ih)
      at true e false f ih = let g = before_more (key x) (key y) (key z) f e in simp (e, f, g)
      at false e true f ih = let g = before_more (key y) (key x) (key z) e f in simp (e, f, g)
      at false e false f ih = last (comes_before (key y) (key x)) refl
        where
          last : (d : Bool) → comes_before (key y) (key x) ≡ d → put x (put y (z ∷ zs)) ≡ put y (put x (z ∷ zs))
          last true g = let h = one_before (key y) (key x) g in simp (e, f, g, h)
          last false g = let h = other_before (key x) (key y) ne g in simp (e, f, g, h)

  -- the key differs from those of the list
  abbrev pub Apart : X → List X → Type 0
  Apart x [] = Unit {0}
  Apart x (y ∷ ys) = (R (key y) (key x) ≡ Equal → ⊥) × Apart x ys

  pub in_order_anywhere : (front : List X) (x : X) (back : List X) → Apart x front → in_order key (front ++ x ∷ back) ≡ put x (in_order key (front ++ back))
  in_order_anywhere [] x back h = refl
  in_order_anywhere (f ∷ fs) x back h = ap (put f) (in_order_anywhere fs x back h.1) ∙ put_swap f x (in_order key (fs ++ back)) h.0

  -- ---- lists in order

  abbrev Least : X → List X → Type 0
  Least x [] = Unit {0}
  Least x (y ∷ ys) = (comes_before (key y) (key x) ≡ false) × Least x ys

  abbrev Sorted : List X → Type 0
  Sorted [] = Unit {0}
  Sorted (x ∷ xs) = Least x xs × Sorted xs

  least_more : (x y : X) (ys : List X) → comes_before (key y) (key x) ≡ false → Least y ys → Least x ys
  least_more x y [] h l = tt
  least_more x y (z ∷ zs) h l = (at (comes_before (key z) (key x)) refl, least_more x y zs h l.1)
    where
      at : (b : Bool) → comes_before (key z) (key x) ≡ b → comes_before (key z) (key x) ≡ false
      at true e = absurd (clash (sym (before_more (key y) (key x) (key z) l.0 e) ∙ h))
      at false e = e

  least_put : (w x : X) (ys : List X) → Least w ys → comes_before (key x) (key w) ≡ false → Least w (put x ys)
  least_put w x [] h e = (e, tt)
  least_put w x (y ∷ ys) h e = at (comes_before (key y) (key x)) refl (least_put w x ys h.1 e)
    where
      at : (b : Bool) → comes_before (key y) (key x) ≡ b → Least w (put x ys) → Least w (put x (y ∷ ys))
      at true f ih = rw f (h.0, ih)
      at false f ih = rw f (e, h)

  sorted_put : (x : X) (ys : List X) → Sorted ys → Sorted (put x ys)
  sorted_put x [] h = (tt, tt)
  sorted_put x (y ∷ ys) h = at (comes_before (key y) (key x)) refl (sorted_put x ys h.1)
    where
      at : (b : Bool) → comes_before (key y) (key x) ≡ b → Sorted (put x ys) → Sorted (put x (y ∷ ys))
      at true f ih = rw f (least_put y x ys h.0 (one_before (key y) (key x) f), ih)
      at false f ih = rw f ((f, least_more x y ys f h.0), h)

  pub sorted : (xs : List X) → Sorted (in_order key xs)
  sorted [] = tt
  sorted (x ∷ xs) = sorted_put x (in_order key xs) (sorted xs)

  put_least : (x : X) (ys : List X) → Least x ys → put x ys ≡ x ∷ ys
  put_least x [] h = refl
  put_least x (y ∷ ys) h = let e = h.0 in simp e

  pub in_order_sorted : (xs : List X) → Sorted xs → in_order key xs ≡ xs
  in_order_sorted [] h = refl
  in_order_sorted (x ∷ xs) h = ap (put x) (in_order_sorted xs h.1) ∙ put_least x xs h.0

  least_filter : (p : X → Bool) (x : X) (ys : List X) → Least x ys → Least x (filter p ys)
  least_filter p x [] h = tt
  least_filter p x (y ∷ ys) h = at (p y) refl (least_filter p x ys h.1)
    where
      at : (b : Bool) → p y ≡ b → Least x (filter p ys) → Least x (filter p (y ∷ ys))
      at true e ih = rw e (h.0, ih)
      at false e ih = rw e ih

  filter_put_no : (p : X → Bool) (x : X) (ys : List X) → p x ≡ false → filter p (put x ys) ≡ filter p ys
  filter_put_no p x [] e = simp e
  filter_put_no p x (y ∷ ys) e = at (comes_before (key y) (key x)) refl (p y) refl (filter_put_no p x ys e)
    where
      at : (b : Bool) → comes_before (key y) (key x) ≡ b → (c : Bool) → p y ≡ c → filter p (put x ys) ≡ filter p ys → filter p (put x (y ∷ ys)) ≡ filter p (y ∷ ys)
      at true g true h ih = simp (g, h, ih)
      at true g false h ih = simp (g, h, ih)
      at false g true h ih = simp (g, h, e)
      at false g false h ih = simp (g, h, e)

  filter_put_yes : (p : X → Bool) (x : X) (ys : List X) → p x ≡ true → Sorted ys → filter p (put x ys) ≡ put x (filter p ys)
  filter_put_yes p x [] e s = simp e
  filter_put_yes p x (y ∷ ys) e s = at (comes_before (key y) (key x)) refl (p y) refl (filter_put_yes p x ys e s.1)
    where
      at : (b : Bool) → comes_before (key y) (key x) ≡ b → (c : Bool) → p y ≡ c → filter p (put x ys) ≡ put x (filter p ys) → filter p (put x (y ∷ ys)) ≡ put x (filter p (y ∷ ys))
      at true g true h ih = simp (g, h, ih)
      at true g false h ih = simp (g, h, ih)
      at false g true h ih = simp (g, h, e)
      at false g false h ih =
          let first = put_least x (filter p ys) (least_filter p x ys (least_more x y ys g s.0)) in
          simp (g, h, e, first)

  -- what passes a test, sorted, is what passes of the sorted
  pub filter_in_order : (p : X → Bool) (xs : List X) → filter p (in_order key xs) ≡ in_order key (filter p xs)
  filter_in_order p [] = refl
  filter_in_order p (x ∷ xs) = at (p x) refl (filter_in_order p xs)
    where
      at : (b : Bool) → p x ≡ b → filter p (in_order key xs) ≡ in_order key (filter p xs) → filter p (in_order key (x ∷ xs)) ≡ in_order key (filter p (x ∷ xs))
      at true e ih = let whole = filter_put_yes p x (in_order key xs) e (sorted xs) ∙ ap (put x) ih in simp (e, whole)
      at false e ih = let whole = filter_put_no p x (in_order key xs) e ∙ ih in simp (e, whole)

  pub in_order_again : (xs : List X) → in_order key (in_order key xs) ≡ in_order key xs
  in_order_again xs = in_order_sorted (in_order key xs) (sorted xs)
