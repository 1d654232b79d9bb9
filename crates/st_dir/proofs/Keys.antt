-- Keys tell names apart, and what is taken out is not left.
use Rattle.std.proofs.Common.{◌≡◌, List, [], ◌∷◌, Bool, true, false, not, ◌&&◌, filter}
use Rattle.std.proofs.Common.{refl, sym, ap, ◌∙◌, subst}
use Rattle.std.specs.Prelude.{slice_index_or}
use Rattle.st_text.specs.Texts.{Text, same}
use Rattle.st_text.proofs.Same.{same-eq, same-refl}
use Rattle.std.specs.List.{list_any}

module _ {X : Type 0} (test out : X → Bool) (outside : (x : X) → test x ≡ true → out x ≡ true) where
  clash : false ≡ true → ⊥
  clash p = cc

  -- what is taken out holds each that passes: none is left
  pub none_left : (xs : List X) → list_any test (filter (λ x. not (out x)) xs) ≡ false
  none_left [] = refl
  none_left (x ∷ xs) = at (test x) refl (out x) refl (none_left xs)
    where
      at : (b : Bool) → test x ≡ b → (c : Bool) → out x ≡ c → list_any test (filter (λ y. not (out y)) xs) ≡ false
          → list_any test (filter (λ y. not (out y)) (x ∷ xs)) ≡ false
      at b e true f ih = simp (f, ih)
      at false e false f ih = simp (e, f, ih)
      at true e false f ih = absurd (clash (sym f ∙ outside x e))

pub and_first : (a b : Bool) → a && b ≡ true → a ≡ true
and_first true b e = refl
and_first false b e = e

pub same_sym : (a b : Text) → same a b ≡ true → same b a ≡ true
same_sym a b e = subst (λ c. same c a ≡ true) (same-eq a b e) (same-refl a)

-- keys of one text tell names apart
pub own_name : (a b : Text) → a ∷ [] ≡ b ∷ [] → same a b ≡ true
own_name a b e = subst (λ t. same a t ≡ true) (ap (λ ts. slice_index_or ts 0 []) e) (same-refl a)
