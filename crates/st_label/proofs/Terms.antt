-- Comparing a name with what stands between quotes.
use Rattle.std.proofs.Common.{◌≡◌, ℕ, ◌==◌, ◌≢◌, ◌⊎◌, inl, inr, List, [], ◌∷◌, Bool, true, false, ◌||◌, length, drop, ◌<◌, ◌+◌, get_or, refl, ap, arith}
use Rattle.std.proofs.lemmas.Bool.{eqb-true}
use Rattle.std.proofs.lemmas.List.{drop_more}
use Rattle.std.specs.Cmp.Lexicographic.{slice_cmp}
use Rattle.std.specs.Ordering.{nat_cmp}
use Rattle.std.specs.declared.cmp.Ordering.TheVariants.{Less, Greater}
use Rattle.st_label.specs.Grammar.{escaped}
use Rattle.st_label.specs.inner.Terms.{unescaped_from}

pub nothing_left : (behind : Bool) → unescaped_from behind [] ≡ []
nothing_left true = refl
nothing_left false = refl

-- behind a backslash, or at another byte, a byte stands for itself
pub as_itself : (behind : Bool) (b : ℕ) (bs : List ℕ) → (behind ≡ true) ⊎ ((b == 92) ≡ false) → unescaped_from behind (b ∷ bs) ≡ b ∷ unescaped_from false bs
as_itself true b bs h = refl
as_itself false b bs (inl h) = cc
as_itself false b bs (inr h) = rw h refl

pub greater : (rest : List ℕ) (behind : Bool) → (length rest == 0) ≡ false → slice_cmp nat_cmp rest (unescaped_from behind []) ≡ Greater
greater [] behind h = cc
greater (b ∷ bs) behind h = refl

other : (b : ℕ) (v : Bool) → (b == 92) ≡ v → b ≢ 92 → (b == 92) ≡ false
other b true e h = absurd (h (eqb-true b 92 e))
other b false e h = e

by_itself : (behind : Bool) (b : ℕ) → (behind ≡ true) ⊎ (b ≢ 92) → (behind ≡ true) ⊎ ((b == 92) ≡ false)
by_itself behind b (inl h) = inl h
by_itself behind b (inr h) = inr (other b _ refl h)

-- nothing is left of the name, and a byte of what is quoted
pub nothing_there : (rest quoted : List ℕ) (i : ℕ) (behind : Bool) → i < length quoted → (behind ≡ true) ⊎ (get_or quoted i 0 ≢ 92) → length rest ≡ 0 →
    slice_cmp nat_cmp rest (unescaped_from behind (drop i quoted)) ≡ Less
nothing_there [] quoted i behind h k none =
    rw (drop_more quoted i 0 h, as_itself behind (get_or quoted i 0) (drop (i + 1) quoted) (by_itself behind (get_or quoted i 0) k)) refl
nothing_there (x ∷ xs) quoted i behind h k none = absurd (omega (arith, none))

or_true : (p : Bool) → (p || true) ≡ true
or_true true = refl
or_true false = refl

-- what is unescaped of what is escaped
pub back : (name : List ℕ) → unescaped_from false (escaped name) ≡ name
back [] = refl
back (b ∷ bs) = by_byte b bs (b == 34) (b == 92) refl refl (back bs)
  where
    by_byte : (b : ℕ) (bs : List ℕ) (p q : Bool) → (b == 34) ≡ p → (b == 92) ≡ q → unescaped_from false (escaped bs) ≡ bs → unescaped_from false (escaped (b ∷ bs)) ≡ b ∷ bs
    by_byte b bs p true h k e = rw (h, k, or_true p) (ap (λ (l : List ℕ). b ∷ l) e)
    by_byte b bs true false h k e = rw h (ap (λ (l : List ℕ). b ∷ l) e)
    by_byte b bs false false h k e = rw (h, k) (rw k (ap (λ (l : List ℕ). b ∷ l) e))
