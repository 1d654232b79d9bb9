-- The place of a key in a list sorted by key.
use Rattle.std.specs.Prelude.{◌≡◌, ℕ, zero, suc, List, [], ◌∷◌, Bool, true, false}
use Rattle.st_text.specs.Texts.{Text, comes_before}

-- no item's key comes before the one wanted
abbrev pub NoneBefore : {X : Type 0} → (X → List Text) → List Text → List X → Type 0
NoneBefore key wanted [] = Unit {0}
NoneBefore key wanted (x ∷ xs) = (comes_before (key x) wanted ≡ false) × NoneBefore key wanted xs

-- the keys ahead of the place come before the one wanted, and no other does
abbrev pub IsPlace : {X : Type 0} → (X → List Text) → List Text → List X → ℕ → Type 0
IsPlace key wanted xs zero = NoneBefore key wanted xs
IsPlace key wanted [] (suc place) = ⊥
IsPlace key wanted (x ∷ xs) (suc place) = (comes_before (key x) wanted ≡ true) × IsPlace key wanted xs place

-- no item passes the test
abbrev pub NoneOf : {X : Type 0} → (X → Bool) → List X → Type 0
NoneOf test [] = Unit {0}
NoneOf test (x ∷ xs) = (test x ≡ false) × NoneOf test xs

-- no item passes the test, except perhaps the one at the place
abbrev pub IsAlone : {X : Type 0} → (X → Bool) → List X → ℕ → Type 0
IsAlone test [] zero = Unit {0}
IsAlone test (x ∷ xs) zero = NoneOf test xs
IsAlone test [] (suc place) = ⊥
IsAlone test (x ∷ xs) (suc place) = (test x ≡ false) × IsAlone test xs place
