-- Sets of texts.
use Rattle.std.proofs.Common.{◌≡◌, map, filter, List, [], ◌∷◌, Bool, true, false, ◌&&◌, ◌||◌, if◌then◌else◌, refl, sym, ap, subst, ◌∙◌}
use Rattle.std.specs.Prelude.{slice_index_or}
use Rattle.std.specs.List.{list_any}
use Rattle.st_text.specs.Texts.{Text, same, is_among, comes_before, put_in_order, in_order, each_once, set_of}
use Rattle.st_text.proofs.Same.{same-eq, same-refl}
use Rattle.st_grant.specs.Grants.{same_scope}
use Rattle.st_grant.specs.declared.grant.Grant.{Grant}
use Rattle.st_grant.specs.declared.grant.Scope.{Scope}
use Rattle.st_sorted.specs.Sorted.{ComesFirst, Rises, name_key}
use Rattle.st_grant.specs.inner.Names.{with_name}
use Rattle.st_sorted.proofs.Sorted.{clash, before_trans, in_order_already, none_from_any, not_itself, other_before, rises_put}

module _ {X : Type 0} (key : X → List Text) (test : X → Bool) where
  pub any_put : (x : X) (ys : List X) → list_any test (put_in_order key x ys) ≡ (test x || list_any test ys)
  any_put x [] = refl
  any_put x (y ∷ ys) = at (comes_before (key y) (key x)) refl (any_put x ys) (test x) refl (test y) refl
    where
      at : (b : Bool) → comes_before (key y) (key x) ≡ b → list_any test (put_in_order key x ys) ≡ (test x || list_any test ys)
          → (c : Bool) → test x ≡ c → (d : Bool) → test y ≡ d → list_any test (put_in_order key x (y ∷ ys)) ≡ (test x || list_any test (y ∷ ys))
      at true e ih true f true g = simp (e, ih, f, g)
      at true e ih true f false g = simp (e, ih, f, g)
      at true e ih false f true g = simp (e, ih, f, g)
      at true e ih false f false g = simp (e, ih, f, g)
      at false e ih c f d g = simp e

  pub any_order : (xs : List X) → list_any test (in_order key xs) ≡ list_any test xs
  any_order [] = refl
  any_order (x ∷ xs) = any_put x (in_order key xs) ∙ ap (λ b. test x || b) (any_order xs)

among_once : (xs : List Text) (n : Text) → is_among (each_once xs) n ≡ is_among xs n
among_once [] n = refl
among_once (x ∷ xs) n = at (is_among xs x) refl (same n x) refl (among_once xs n)
  where
    at : (b : Bool) → is_among xs x ≡ b → (c : Bool) → same n x ≡ c → is_among (each_once xs) n ≡ is_among xs n → is_among (each_once (x ∷ xs)) n ≡ is_among (x ∷ xs) n
    at true e true f ih =
        let there : is_among xs n ≡ true = subst (λ t. is_among xs t ≡ true) (sym (same-eq n x f)) e in
        simp (e, f, ih, there)
    at true e false f ih = simp (e, f, ih)
    at false e true f ih = simp (e, f)
    at false e false f ih = simp (e, f, ih)

pub among_set : (xs : List Text) (n : Text) → is_among (set_of xs) n ≡ is_among xs n
among_set xs n = any_order name_key (same n) (each_once xs) ∙ among_once xs n

-- a set's texts rise
pub rises_set : (xs : List Text) → Rises name_key (set_of xs)
rises_set [] = tt
rises_set (x ∷ xs) = at (is_among xs x) refl (rises_set xs)
  where
    own : (y : Text) → name_key y ≡ name_key x → same x y ≡ true
    own y e = subst (λ t. same x t ≡ true) (sym (ap (λ ts. slice_index_or ts 0 []) e)) (same-refl x)

    at : (b : Bool) → is_among xs x ≡ b → Rises name_key (set_of xs) → Rises name_key (set_of (x ∷ xs))
    at true e ih = rw e ih
    at false e ih = rw e (rises_put name_key x (same x) own (set_of xs) ih (none_from_any name_key (same x) (set_of xs) (among_set xs x ∙ e)))

-- with a name among them, once

own_text : (x y : Text) → name_key y ≡ name_key x → same x y ≡ true
own_text x y e = subst (λ t. same x t ≡ true) (sym (ap (λ ts. slice_index_or ts 0 []) e)) (same-refl x)

pub rises_with : (x : Text) (xs : List Text) → Rises name_key xs → Rises name_key (with_name x xs)
rises_with x xs h = at (is_among xs x) refl
  where
    at : (b : Bool) → is_among xs x ≡ b → Rises name_key (with_name x xs)
    at true e = rw e h
    at false e = rw (e, in_order_already name_key xs h) (rises_put name_key x (same x) (own_text x) xs h (none_from_any name_key (same x) xs e))

pub among_with : (x : Text) (xs : List Text) (n : Text) → is_among (with_name x xs) n ≡ (is_among xs n || same n x)
among_with x xs n = at (is_among xs x) refl (same n x) refl (is_among xs n) refl
  where
    at : (b : Bool) → is_among xs x ≡ b → (c : Bool) → same n x ≡ c → (d : Bool) → is_among xs n ≡ d → is_among (with_name x xs) n ≡ (is_among xs n || same n x)
    at true e true f d g =
        let there : is_among xs n ≡ true = subst (λ t. is_among xs t ≡ true) (sym (same-eq n x f)) e in
        simp (e, f, there)
    at true e false f true g = simp (e, f, g)
    at true e false f false g = simp (e, f, g)
    at false e c f true g = let whole = any_order name_key (same n) (x ∷ xs) in at_out c f whole
      where
        at_out : (c : Bool) → same n x ≡ c → list_any (same n) (in_order name_key (x ∷ xs)) ≡ list_any (same n) (x ∷ xs) → is_among (with_name x xs) n ≡ (is_among xs n || same n x)
        at_out true f whole = simp (e, whole, f, g)
        at_out false f whole = simp (e, whole, f, g)
    at false e true f false g = let whole = any_order name_key (same n) (x ∷ xs) in simp (e, whole, f, g)
    at false e false f false g = let whole = any_order name_key (same n) (x ∷ xs) in simp (e, whole, f, g)

-- ---- lists that rise and hold the same are one

first_apart : (x : Text) (xs : List Text) → ComesFirst name_key x xs → is_among xs x ≡ false
first_apart x [] h = refl
first_apart x (y ∷ ys) h = at (same x y) refl (first_apart x ys h.1)
  where
    at : (b : Bool) → same x y ≡ b → is_among ys x ≡ false → is_among (y ∷ ys) x ≡ false
    at true e ih = absurd (clash (sym (not_itself (name_key x)) ∙ subst (λ t. comes_before (name_key x) (name_key t) ≡ true) (sym (same-eq x y e)) h.0))
    at false e ih = simp (e, ih)

first_of_all : (x y : Text) (ys : List Text) → comes_before (name_key x) (name_key y) ≡ true → ComesFirst name_key y ys → ComesFirst name_key x ys
first_of_all x y [] e h = tt
first_of_all x y (z ∷ zs) e h = (before_trans (name_key x) (name_key y) (name_key z) e h.0, first_of_all x y zs e h.1)

-- a text before the first of a list that rises is not in it
lesser_apart : (x y : Text) (ys : List Text) → comes_before (name_key x) (name_key y) ≡ true → Rises name_key (y ∷ ys) → is_among (y ∷ ys) x ≡ false
lesser_apart x y ys e h = first_apart x (y ∷ ys) (e, first_of_all x y ys e h.0)

holds_first : (x : Text) (xs : List Text) → is_among (x ∷ xs) x ≡ true
holds_first x xs = let e = same-refl x in simp e

same_text : (x y : Text) → comes_before (name_key x) (name_key y) ≡ false → comes_before (name_key y) (name_key x) ≡ false → x ≡ y
same_text x y e f = at (same x y) refl
  where
    at : (b : Bool) → same x y ≡ b → x ≡ y
    at true g = same-eq x y g
    at false g = absurd (clash (sym f ∙ other_before (name_key x) (name_key y) e (λ k. clash (sym g ∙ own_text x y (sym k)))))

pub one_set : (xs ys : List Text) → Rises name_key xs → Rises name_key ys → ((n : Text) → is_among xs n ≡ is_among ys n) → xs ≡ ys
one_set [] [] h k m = refl
one_set [] (y ∷ ys) h k m = absurd (clash (m y ∙ holds_first y ys))
one_set (x ∷ xs) [] h k m = absurd (clash (sym (m x) ∙ holds_first x xs))
one_set (x ∷ xs) (y ∷ ys) h k m = at (comes_before (name_key x) (name_key y)) refl (comes_before (name_key y) (name_key x)) refl (one_set xs ys h.1 k.1)
  where
    tail : x ≡ y → (n : Text) → is_among xs n ≡ is_among ys n
    tail is n = by (same n x) refl
      where
        by : (b : Bool) → same n x ≡ b → is_among xs n ≡ is_among ys n
        by true e =
            subst (λ t. is_among xs t ≡ is_among ys t) (sym (same-eq n x e))
            (first_apart x xs h.0 ∙ sym (subst (λ t. is_among ys t ≡ false) (sym is) (first_apart y ys k.0)))
        by false e =
            let f : same n y ≡ false = subst (λ t. same n t ≡ false) is e in
            simp (e, f) at (m n)

    at : (b : Bool) → comes_before (name_key x) (name_key y) ≡ b → (c : Bool) → comes_before (name_key y) (name_key x) ≡ c → (((n : Text) → is_among xs n ≡ is_among ys n) → xs ≡ ys) → x ∷ xs ≡ y ∷ ys
    at true e c f ih = absurd (clash (sym (lesser_apart x y ys e k) ∙ (sym (m x) ∙ holds_first x xs)))
    at false e true f ih = absurd (clash (sym (lesser_apart y x xs f h) ∙ (m y ∙ holds_first y ys)))
    at false e false f ih =
        let is : x ≡ y = same_text x y e f in
        ap (λ t. t ∷ xs) is ∙ ap (λ ts. y ∷ ts) (ih (tail is))

abbrev pub users_on : Scope → List Grant → List Text
users_on scope grants = map (λ h. h.user) (filter (λ h. same_scope scope h.scope) grants)

-- the users of the grants on a scope
pub among_users : (scope : Scope) (grants : List Grant) (n : Text) → is_among (users_on scope grants) n ≡ list_any (λ h. same_scope scope h.scope && same n h.user) grants
among_users scope [] n = refl
among_users scope (h ∷ grants) n = at (same_scope scope h.scope) refl (among_users scope grants n)
  where
    at : (b : Bool) → same_scope scope h.scope ≡ b → is_among (users_on scope grants) n ≡ list_any (λ h. same_scope scope h.scope && same n h.user) grants
        → is_among (users_on scope (h ∷ grants)) n ≡ list_any (λ h. same_scope scope h.scope && same n h.user) (h ∷ grants)
    at true e ih = simp (e, ih)
    at false e ih = simp (e, ih)

-- with the user of a grant, if it is on the scope
abbrev pub with_user : Scope → Grant → List Text → List Text
with_user scope grant names = if same_scope scope grant.scope then with_name grant.user names else names

pub rises_with_user : (scope : Scope) (grant : Grant) (names : List Text) → Rises name_key names → Rises name_key (with_user scope grant names)
rises_with_user scope grant names h = at (same_scope scope grant.scope) refl
  where
    at : (b : Bool) → same_scope scope grant.scope ≡ b → Rises name_key (with_user scope grant names)
    at true e = rw e (rises_with grant.user names h)
    at false e = rw e h

pub among_with_user : (scope : Scope) (grant : Grant) (names : List Text) (n : Text)
    → is_among (with_user scope grant names) n ≡ (is_among names n || (same_scope scope grant.scope && same n grant.user))
among_with_user scope grant names n = at (same_scope scope grant.scope) refl (is_among names n) refl
  where
    at : (b : Bool) → same_scope scope grant.scope ≡ b → (d : Bool) → is_among names n ≡ d
        → is_among (with_user scope grant names) n ≡ (is_among names n || (same_scope scope grant.scope && same n grant.user))
    at true e d f = let whole = among_with grant.user names n in simp (e, whole)
    at false e true f = simp (e, f)
    at false e false f = simp (e, f)

-- a list that rises and holds the users of all grants on a scope is their set
pub met_in_grants : (scope : Scope) (grants : List Grant) (found : List Text) → Rises name_key found
    → ((n : Text) → is_among found n ≡ list_any (λ h. same_scope scope h.scope && same n h.user) grants) → found ≡ set_of (users_on scope grants)
met_in_grants scope grants found rises same_names =
    one_set found (set_of (users_on scope grants)) rises (rises_set (users_on scope grants)) (λ n. same_names n ∙ sym (among_users scope grants n) ∙ sym (among_set (users_on scope grants) n))
