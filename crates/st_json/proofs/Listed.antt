-- Lists of numbers and of texts in a body.
use Rattle.std.proofs.Common.{◌≡◌, ℕ, zero, suc, ◌<◌, ◌&&◌, Bool, true, false, List, [], ◌∷◌, length, drop, get_or, Option, Some, None, is_some, option_map, option_and_then, refl, sym, ap, ◌∙◌, arith}
use Rattle.std.specs.List.{list_all}
use Rattle.serde_json.specs.Find.{as_str}
use Rattle.serde_json.specs.Data.{Data, Items}
use Rattle.std.proofs.Math.Seq.{drop-cons}
use Rattle.std.proofs.lemmas.List.{drop_all}
use Rattle.serde_json.specs.declared.value.Value.{Value}
use Rattle.serde_json.specs.View.{items_of, items_view, view}
use Rattle.std.specs.Prelude.{IfNone, IfSome}
use Rattle.st_key.specs.declared.point.Point.{Point}
use Rattle.st_json.specs.declared.value.Bounds.{Bounds}
use Rattle.st_json.specs.Fields.{as_natural, six_numbers}
use Rattle.st_json.specs.inner.Parts.{Picks, numbers_of, texts_of, texts_among, with_text}

-- both a first and the rest were there
pub record Both (A : Type 0) (o : Option A) (p : Option (List A)) (xs : List A) : Type 0 where
  pub first : A
  pub more : List A
  pub has_first : o ≡ Some first
  pub has_more : p ≡ Some more
  pub all : xs ≡ first ∷ more

pub both : {A : Type 0} (o : Option A) (p : Option (List A)) (xs : List A) → option_and_then (λ x. option_map (λ more. x ∷ more) p) o ≡ Some xs → Both A o p xs
both None p xs e = cc
both (Some x) None xs e = cc
both (Some x) (Some more) xs e = record { first = x; more = more; has_first = refl; has_more = refl; all = cc }

-- a list of numbers has as many numbers as items
pub same_length : (ds : List Data) (ns : List ℕ) → numbers_of (items_of ds) ≡ Some ns → length ns ≡ length ds
same_length [] ns e = let h : ns ≡ [] = cc in ap length h
same_length (d ∷ ds) ns e =
    let b = both (as_natural d) (numbers_of (items_of ds)) ns e in
    ap length b.all ∙ omega (arith, same_length ds b.more b.has_more)

pub one_more : (vs : List Value) (v : Value) (k n : ℕ) (ns : List ℕ) → k < length vs → v ≡ get_or vs k v → as_natural (view v) ≡ Some n
    → numbers_of (items_view (drop (suc k) vs)) ≡ Some ns → numbers_of (items_view (drop k vs)) ≡ Some (n ∷ ns)
one_more vs v k n ns inside is number rest =
    let split : drop k vs ≡ v ∷ drop (suc k) vs = drop-cons vs k v inside ∙ ap (λ w. w ∷ drop (suc k) vs) (sym is) in
    rw (split, number, rest)

pub no_more : (vs : List Value) (k : ℕ) → length vs ≡ k → numbers_of (items_view (drop k vs)) ≡ Some []
no_more vs k e = rw (drop_all k vs (omega arith))

-- no point is at these numbers, so none has them for its own
pub none_at : (found : Option (List ℕ)) (x y t : ℕ) (o : Option Point) → found ≡ Some (x ∷ y ∷ t ∷ [])
    → Picks (λ p. (p.x ≡ x) × (p.y ≡ y) × (p.t ≡ t)) o → IfNone o ((p : Point) → found ≡ Some (p.x ∷ p.y ∷ p.t ∷ []) → ⊥)
none_at found x y t (Some p) e h = tt
none_at found x y t None e h = λ p f. h p (cc, cc, cc)

pub some_at : (found : Option (List ℕ)) (x y t : ℕ) (o : Option Point) → found ≡ Some (x ∷ y ∷ t ∷ [])
    → Picks (λ p. (p.x ≡ x) × (p.y ≡ y) × (p.t ≡ t)) o → IfSome o (λ p. found ≡ Some (p.x ∷ p.y ∷ p.t ∷ []))
some_at found x y t (Some p) e h = let a = h.0 in let b = h.1 in let d = h.2 in cc
some_at found x y t None e h = tt

-- one item is no number, so the list is none of numbers
not_here : (vs : List Value) (v : Value) (k : ℕ) (ns : List ℕ) → k < length vs → v ≡ get_or vs k v → as_natural (view v) ≡ None → numbers_of (items_view vs) ≡ Some ns → ⊥
not_here [] v k ns inside is none all = absurd (omega (arith, inside))
not_here (w ∷ vs) v zero ns inside is none all =
    let b = both (as_natural (view w)) (numbers_of (items_view vs)) ns all in
    let there : None ≡ Some b.first = sym none ∙ ap (λ u. as_natural (view u)) is ∙ b.has_first in
    cc
not_here (w ∷ vs) v (suc k) ns inside is none all =
    let b = both (as_natural (view w)) (numbers_of (items_view vs)) ns all in
    not_here vs v k b.more (omega (arith, inside)) is none b.has_more

pub not_six : (vs : List Value) (v : Value) (k : ℕ) (o : Option Bounds) → k < length vs → v ≡ get_or vs k v → as_natural (view v) ≡ None
    → IfNone o ((b : Bounds) → numbers_of (items_view vs) ≡ Some (six_numbers b) → ⊥)
not_six vs v k (Some b) inside is none = tt
not_six vs v k None inside is none = λ b e. not_here vs v k (six_numbers b) inside is none e

pub not_three : (vs : List Value) (v : Value) (k : ℕ) (o : Option Point) → k < length vs → v ≡ get_or vs k v → as_natural (view v) ≡ None
    → IfNone o ((p : Point) → numbers_of (items_view vs) ≡ Some (p.x ∷ p.y ∷ p.t ∷ []) → ⊥)
not_three vs v k (Some p) inside is none = tt
not_three vs v k None inside is none = λ p e. not_here vs v k (p.x ∷ p.y ∷ p.t ∷ []) inside is none e

-- ---- texts

-- what the items of a list that was found give
pub of_found : (l : Option Items) (vs ws : List Value) (o : Option (List (List ℕ))) → Some (items_view ws) ≡ l → vs ≡ ws → texts_of (items_view vs) ≡ o → o ≡ option_and_then texts_of l
of_found l vs ws o found same is = rw (sym found, sym same) (sym is)

some_first : (o : Option (List ℕ)) (p : Option (List (List ℕ))) (more : List (List ℕ)) (b : Bool) → (is_some o && b) ≡ true → (b ≡ true → p ≡ Some more)
    → option_and_then (λ s. option_map (λ m. s ∷ m) p) o ≡ Some (with_text o more)
some_first None p more b all rest = cc
some_first (Some s) p more b all rest = rw (rest all) refl

none_first : (o : Option (List ℕ)) (p : Option (List (List ℕ))) (b : Bool) → (is_some o && b) ≡ false → (b ≡ false → p ≡ None) → option_and_then (λ s. option_map (λ m. s ∷ m) p) o ≡ None
none_first None p b all rest = refl
none_first (Some s) p b all rest = rw (rest all) refl

-- each item is a text
pub all_texts : (vs : List Value) → list_all (λ v. is_some (as_str (view v))) vs ≡ true → texts_of (items_view vs) ≡ Some (texts_among (items_view vs))
all_texts [] all = refl
all_texts (v ∷ vs) all = some_first (as_str (view v)) _ _ (list_all (λ w. is_some (as_str (view w))) vs) all (all_texts vs)

-- one item is no text
pub not_texts : (vs : List Value) → list_all (λ v. is_some (as_str (view v))) vs ≡ false → texts_of (items_view vs) ≡ None
not_texts [] all = cc
not_texts (v ∷ vs) all = none_first (as_str (view v)) _ (list_all (λ w. is_some (as_str (view w))) vs) all (not_texts vs)
