-- Texts that are the same are equal.
use Rattle.std.proofs.Common.{◌≡◌, Bool, true, false, refl, sym, subst, ◌∙◌}
use Rattle.std.proofs.lemmas.Slice.Eq.{bytes_eq-Decides}
use Rattle.st_text.specs.Texts.{Text, same}

pub same-eq : (a b : Text) → same a b ≡ true → a ≡ b
same-eq a b = (bytes_eq-Decides a b).0

pub same-refl : (a : Text) → same a a ≡ true
same-refl a = (bytes_eq-Decides a a).1 refl

pub same-swap : (a b : Text) → same a b ≡ same b a
same-swap a b = by_first a b (same a b) refl
  where
    by_second : (a b : Text) → same a b ≡ false → (v : Bool) → same b a ≡ v → false ≡ v
    by_second a b e true f = sym e ∙ subst (λ t. same t b ≡ true) (same-eq b a f) (same-refl b)
    by_second a b e false f = refl

    by_first : (a b : Text) (v : Bool) → same a b ≡ v → v ≡ same b a
    by_first a b true e = sym (subst (λ t. same t a ≡ true) (same-eq a b e) (same-refl a))
    by_first a b false e = by_second a b e (same b a) refl
