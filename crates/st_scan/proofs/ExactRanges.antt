-- The exact ranges of a plan, part by part.
use Rattle.std.proofs.Common.{◌≡◌, ◌++◌, ◌∷◌, ◌<◌, ◌⊎◌, ℕ, suc, zero, inl, inr, List, [], length, get_or, Bool, true, false, ◌||◌, refl, sym, ap, ◌∙◌, arith}
use Rattle.std.specs.List.{list_any}

or_cases : (b c : Bool) → (b || c) ≡ true → (b ≡ true) ⊎ (c ≡ true)
or_cases true c h = inl refl
or_cases false c h = inr h

or_later : (b c : Bool) → c ≡ true → (b || c) ≡ true
or_later true c h = refl
or_later false c h = h

or_here : (b c : Bool) → b ≡ true → (b || c) ≡ true
or_here true c h = refl
or_here false c h = cc

module _ {X : Type 0} (test : X → Bool) where
  pub any_at : (xs : List X) (i : ℕ) (x : X) → i < length xs → x ≡ get_or xs i x → test x ≡ true → list_any test xs ≡ true
  any_at [] i x l e h = absurd (omega (arith, l))
  any_at (y ∷ ys) zero x l e h = or_here (test y) (list_any test ys) (ap test (sym e) ∙ h)
  any_at (y ∷ ys) (suc i) x l e h = or_later (test y) (list_any test ys) (any_at ys i x (omega (arith, l)) e h)

  -- one of a list with one more at its end
  pub any_last : (xs : List X) (y : X) → list_any test (xs ++ y ∷ []) ≡ true → (list_any test xs ≡ true) ⊎ (test y ≡ true)
  any_last [] y h = elim (or_cases (test y) false h) [ inl here ↦ inr here | inr none ↦ inl none ]
  any_last (x ∷ xs) y h = elim (or_cases (test x) (list_any test (xs ++ y ∷ [])) h) [
    | inl first ↦ inl (or_here (test x) (list_any test xs) first)
    | inr rest ↦ elim (any_last xs y rest) [ inl later ↦ inl (or_later (test x) (list_any test xs) later) | inr last ↦ inr last ]
  ]
