-- Tests, filters by them, and lists that are sorted twice.
use Rattle.std.proofs.Common.{◌≡◌, List, [], ◌∷◌, map, filter, Bool, true, false, ◌&&◌, ◌||◌, refl, sym, ◌∙◌, ap}
use Rattle.std.specs.Ordering.{is_lt}
use Rattle.std.specs.declared.cmp.Ordering.TheVariants.{Equal}
use Rattle.st_text.specs.Texts.{Text, comes_before, put_in_order, in_order}
use Rattle.st_text.proofs.Resorting.{R, put_swap, filter_in_order}

pub and_true : (a b : Bool) → (a && b) ≡ true → (a ≡ true) × (b ≡ true)
and_true true b h = (refl, h)
and_true false b h = cc

pub and_intro : {a b : Bool} → a ≡ true → b ≡ true → (a && b) ≡ true
and_intro {b = b} e f = ap (λ c. c && b) e ∙ f

pub or_false : (a b : Bool) → (a || b) ≡ false → (a ≡ false) × (b ≡ false)
or_false true b h = cc
or_false false b h = (refl, h)

pub or_left : (a b : Bool) → a ≡ true → (a || b) ≡ true
or_left a b e = ap (λ c. c || b) e

pub or_right : (a : Bool) {b : Bool} → b ≡ true → (a || b) ≡ true
or_right true e = refl
or_right false e = e

pub clash : {b : Bool} → b ≡ true → b ≡ false → ⊥
clash e f = cc

before_differs : (a b : List Text) → comes_before a b ≡ true → R a b ≡ Equal → ⊥
before_differs a b e f = clash (sym (ap is_lt f) ∙ e) refl

module _ {X : Type 0} where
  -- the order of two filters is free
  pub filter_swap : (v w : X → Bool) (xs : List X) → filter v (filter w xs) ≡ filter w (filter v xs)
  filter_swap v w [] = refl
  filter_swap v w (x ∷ xs) = at (v x) (w x) refl refl (filter_swap v w xs)
    where
      at : (a b : Bool) → v x ≡ a → w x ≡ b → filter v (filter w xs) ≡ filter w (filter v xs) → filter v (filter w (x ∷ xs)) ≡ filter w (filter v (x ∷ xs))
      at true true e f ih = simp (e, f, ih)
      at true false e f ih = simp (e, f, ih)
      at false true e f ih = simp (e, f, ih)
      at false false e f ih = simp (e, f, ih)

  -- a filter that drops only what the other drops
  pub filter_weaker : (v w : X → Bool) → ((x : X) → v x ≡ true → w x ≡ true) → (xs : List X) → filter v (filter w xs) ≡ filter v xs
  filter_weaker v w more [] = refl
  filter_weaker v w more (x ∷ xs) = at (v x) (w x) refl refl (filter_weaker v w more xs)
    where
      at : (a b : Bool) → v x ≡ a → w x ≡ b → filter v (filter w xs) ≡ filter v xs → filter v (filter w (x ∷ xs)) ≡ filter v (x ∷ xs)
      at true true e f ih = simp (e, f, ih)
      at true false e f ih = absurd (clash (more x e) f)
      at false true e f ih = simp (e, f, ih)
      at false false e f ih = simp (e, f, ih)

  -- a test of images, after a test
  pub filter_images : {Y : Type 0} (f : X → Y) (p : X → Bool) (q : Y → Bool) (xs : List X) → filter q (map f (filter p xs)) ≡ map f (filter (λ x. p x && q (f x)) xs)
  filter_images f p q [] = refl
  filter_images f p q (x ∷ xs) = at (p x) (q (f x)) refl refl (filter_images f p q xs)
    where
      at : (a b : Bool) → p x ≡ a → q (f x) ≡ b → filter q (map f (filter p xs)) ≡ map f (filter (λ x. p x && q (f x)) xs)
          → filter q (map f (filter p (x ∷ xs))) ≡ map f (filter (λ x. p x && q (f x)) (x ∷ xs))
      at true true e g ih = simp (e, g, ih)
      at true false e g ih = simp (e, g, ih)
      at false b e g ih = simp (e, ih)

  -- images are sorted as what they are images of
  put_images : {Y : Type 0} (f : X → Y) (key : Y → List Text) (x : X) (ys : List X) → put_in_order key (f x) (map f ys) ≡ map f (put_in_order (λ y. key (f y)) x ys)
  put_images f key x [] = refl
  put_images f key x (y ∷ ys) = at (comes_before (key (f y)) (key (f x))) refl (put_images f key x ys)
    where
      at : (b : Bool) → comes_before (key (f y)) (key (f x)) ≡ b → put_in_order key (f x) (map f ys) ≡ map f (put_in_order (λ y. key (f y)) x ys)
          → put_in_order key (f x) (map f (y ∷ ys)) ≡ map f (put_in_order (λ y. key (f y)) x (y ∷ ys))
      at true e ih = simp (e, ih)
      at false e ih = simp e

  pub in_order_images : {Y : Type 0} (f : X → Y) (key : Y → List Text) (xs : List X) → in_order key (map f xs) ≡ map f (in_order (λ x. key (f x)) xs)
  in_order_images f key [] = refl
  in_order_images f key (x ∷ xs) = ap (put_in_order key (f x)) (in_order_images f key xs) ∙ put_images f key x (in_order (λ y. key (f y)) xs)

  -- ---- a list that is sorted twice

  module _ (key first : X → List Text) (p : X → Bool) (agree : (x y : X) → p x ≡ true → p y ≡ true → R (key y) (key x) ≡ Equal → R (first y) (first x) ≡ Equal) where
    put_resorted : (x : X) → p x ≡ true → (ys : List X) → in_order key (filter p (put_in_order first x ys)) ≡ put_in_order key x (in_order key (filter p ys))
    put_resorted x px [] = simp px
    put_resorted x px (y ∷ ys) = at (comes_before (first y) (first x)) refl (p y) refl (put_resorted x px ys)
      where
        at : (b : Bool) → comes_before (first y) (first x) ≡ b → (c : Bool) → p y ≡ c
            → in_order key (filter p (put_in_order first x ys)) ≡ put_in_order key x (in_order key (filter p ys))
            → in_order key (filter p (put_in_order first x (y ∷ ys))) ≡ put_in_order key x (in_order key (filter p (y ∷ ys)))
        at true e true f ih =
            let whole = ap (put_in_order key y) ih ∙ put_swap key y x (in_order key (filter p ys)) (λ g. before_differs (first y) (first x) e (agree x y px f g)) in
            simp (e, f, whole)
        at true e false f ih = simp (e, f, ih)
        at false e true f ih = simp (e, f, px)
        at false e false f ih = simp (e, f, px)

    -- what passes the test is sorted the same, whether or not it was sorted by another key before
    pub resorted : (xs : List X) → in_order key (filter p (in_order first xs)) ≡ in_order key (filter p xs)
    resorted [] = refl
    resorted (x ∷ xs) = at (p x) refl (resorted xs)
      where
        at : (b : Bool) → p x ≡ b → in_order key (filter p (in_order first xs)) ≡ in_order key (filter p xs)
            → in_order key (filter p (in_order first (x ∷ xs))) ≡ in_order key (filter p (x ∷ xs))
        at true e ih = let whole = put_resorted x e (in_order first xs) ∙ ap (put_in_order key x) ih in simp (e, whole)
        at false e ih =
            let gone : filter p (x ∷ xs) ≡ filter p xs = simp e in
            let whole = filter_in_order first p (x ∷ xs) ∙ ap (in_order first) gone ∙ sym (filter_in_order first p xs) in
            ap (in_order key) whole ∙ ih ∙ ap (in_order key) (sym gone)
