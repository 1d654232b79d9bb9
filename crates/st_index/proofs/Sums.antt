-- Sums over lists, and over the lists that other lists give.
use Rattle.std.proofs.Common.{◌≡◌, ℕ, ◌+◌, ◌<◌, ◌≤◌, List, [], ◌∷◌, length, take, get_or, refl, sym, ap, ◌∙◌}
use Rattle.std.proofs.lemmas.List.{take_all}
use Rattle.std.proofs.lemmas.List.Sums.{sum_by-append, sum_by-cons, sum_by_more}
use Rattle.std.specs.List.{flat_map, sum_by}

-- the sum over all items that some lists give is the sum of the sums over each list
pub sum_by-flat_map : {A X : Type 0} (f : A → ℕ) (g : X → List A) (xs : List X) → sum_by f (flat_map g xs) ≡ sum_by (λ x. sum_by f (g x)) xs
sum_by-flat_map f g [] = refl
sum_by-flat_map f g (x ∷ xs) =
    sum_by-append f (g x) (flat_map g xs)
    ∙ ap (λ n. sum_by f (g x) + n) (sum_by-flat_map f g xs)
    ∙ sym (sum_by-cons (λ y. sum_by f (g y)) x xs)

module _ {X : Type 0} (f : X → ℕ) (xs : List X) (i : ℕ) where
  pub sum_one_more : (x : X) → i < length xs → x ≡ get_or xs i x → sum_by f (take (i + 1) xs) ≡ sum_by f (take i xs) + f x
  sum_one_more x below is = sum_by_more f xs i x below ∙ ap (λ y. sum_by f (take i xs) + f y) (sym is)

  pub sum_all : length xs ≤ i → sum_by f (take i xs) ≡ sum_by f xs
  sum_all over = ap (sum_by f) (take_all i xs over)
