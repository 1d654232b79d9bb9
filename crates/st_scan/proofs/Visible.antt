-- Rows inside a query that are visible, and those that are seen.
use Rattle.std.proofs.Common.{◌≡◌, ◌≤◌, List, [], ◌∷◌, length, filter, count_by, Bool, true, false, cond, ◌&&◌, refl, sym, ap, ◌∙◌, arith}
use Rattle.std.proofs.lemmas.List.Sums.{length-filter}

pub filter_le : {X : Type 0} (p : X → Bool) (xs : List X) → length (filter p xs) ≤ length xs
filter_le p [] = omega arith
filter_le p (x ∷ xs) = elim (p x) as (λ b. length (cond b (x ∷ filter p xs) (filter p xs)) ≤ length (x ∷ xs)) [
  | true ↦ omega (arith, filter_le p xs)
  | false ↦ omega (arith, filter_le p xs)
]

-- a filter of a filter
twice : {X : Type 0} (p q : X → Bool) (b c : Bool) (x : X) (xs : List X) → filter p (cond b (x ∷ xs) xs) ≡ cond (b && p x) (x ∷ filter p xs) (filter p xs)
twice p q true c x xs = refl
twice p q false c x xs = refl

pub filter_twice : {X : Type 0} (p q : X → Bool) (xs : List X) → filter p (filter q xs) ≡ filter (λ x. q x && p x) xs
filter_twice p q [] = refl
filter_twice p q (x ∷ xs) = twice p q (q x) (p x) x (filter q xs) ∙ ap (λ ys. cond (q x && p x) (x ∷ ys) ys) (filter_twice p q xs)

-- how many pass of those that a filter keeps
pub count_kept : {X : Type 0} (p s : X → Bool) (xs : List X) → count_by p (filter s xs) ≡ count_by (λ x. s x && p x) xs
count_kept p s xs = sym (length-filter p (filter s xs)) ∙ ap length (filter_twice p s xs) ∙ length-filter (λ x. s x && p x) xs

pub keep : {X : Type 0} (p : X → Bool) (x : X) (xs : List X) → p x ≡ true → filter p (x ∷ xs) ≡ x ∷ filter p xs
keep p x xs h = ap (λ b. cond b (x ∷ filter p xs) (filter p xs)) h

pub omit : {X : Type 0} (p : X → Bool) (x : X) (xs : List X) → p x ≡ false → filter p (x ∷ xs) ≡ filter p xs
omit p x xs h = ap (λ b. cond b (x ∷ filter p xs) (filter p xs)) h
