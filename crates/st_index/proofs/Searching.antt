-- Where a key's entry stands among entries that are looked at one by one.
use Rattle.std.proofs.Common.{◌≡◌, ℕ, ◌<◌, ◌≤◌, true, false, List, length, get_or, not, ltb, Some, None, ap, sym, ◌∙◌, arith, refl, Less, Equal, Greater}
use Rattle.std.specs.declared.cmp.Ordering.{Ordering}
use Rattle.std.specs.List.{position, position_or_len}
use Rattle.std.specs.List.Sorted.{IsNonDecreasingBy}
use Rattle.std.specs.Ordering.{nat_cmp, ordering_index}
use Rattle.std.proofs.lemmas.Bool.Decides.{nat_tests}
use Rattle.std.proofs.lemmas.Grind.{common_steps}
use Rattle.std.proofs.lemmas.List.{get_or_default}
use Rattle.std.proofs.lemmas.List.Quantifiers.{position-Some}
use Rattle.std.proofs.lemmas.List.Sums.{fails_before_first}

less : (m n : ℕ) → not (ltb m n) ≡ false → nat_cmp m n ≡ Less
less m n h = grind (arith, nat_tests)

greater : (m n : ℕ) → ltb n m ≡ true → nat_cmp m n ≡ Greater
greater m n h = grind (arith, nat_tests)

equal : (m n : ℕ) → not (ltb m n) ≡ true → ltb n m ≡ false → nat_cmp m n ≡ Equal
equal m n h k = grind (arith, nat_tests)

last : (o : Ordering) → 2 ≤ ordering_index o → o ≡ Greater
last Less h = absurd (omega (arith, h))
last Equal h = absurd (omega (arith, h))
last Greater h = refl

module _ {X : Type 0} (at : X → ℕ) (key : ℕ) (xs : List X) where
  -- none comes from the key on
  pub all_less : position (λ x. not (ltb (at x) key)) xs ≡ None → (k : ℕ) (d : X) → k < length xs → nat_cmp (at (get_or xs k d)) key ≡ Less
  all_less e k d lt =
      let end : length xs ≤ position_or_len (λ x. not (ltb (at x) key)) xs = grind (arith, common_steps) in
      less _ _ (fails_before_first (λ x. not (ltb (at x) key)) xs k d (omega arith))

  module _ (place : ℕ) (e : position (λ x. not (ltb (at x) key)) xs ≡ Some place) where
    pub inside : place < length xs
    inside = grind (arith, common_steps)

    pub less_before : (k : ℕ) (d : X) → k < place → nat_cmp (at (get_or xs k d)) key ≡ Less
    less_before k d lt = less _ _ ((position-Some (λ x. not (ltb (at x) key)) xs place d e).2 k lt)

    module _ (x : X) (here : x ≡ get_or xs place x) where
      at_place : (d : X) → get_or xs place d ≡ x
      at_place d = get_or_default xs place d x inside ∙ sym here

      pub equal_there : (d : X) → false ≡ ltb key (at x) → nat_cmp (at (get_or xs place d)) key ≡ Equal
      equal_there d h = equal _ _ ((position-Some (λ x. not (ltb (at x) key)) xs place d e).1) (ap (λ y. ltb key (at y)) (at_place d) ∙ sym h)

      -- where the answers rise, a greater one has none but greater ones after it
      pub greater_from : true ≡ ltb key (at x) → IsNonDecreasingBy (λ x. ordering_index (nat_cmp (at x) key)) xs
          → (k : ℕ) (d : X) → place ≤ k → k < length xs → nat_cmp (at (get_or xs k d)) key ≡ Greater
      greater_from h rises k d le lt =
          let there : ordering_index (nat_cmp (at (get_or xs place d)) key) ≡ 2 = ap ordering_index (ap (λ y. nat_cmp (at y) key) (at_place d) ∙ greater (at x) key (sym h)) in
          let rise = rises place k d le lt in
          last _ (omega (arith, there, rise))
