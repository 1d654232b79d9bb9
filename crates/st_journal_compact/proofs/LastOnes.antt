-- The last items of a list.
use Rattle.std.proofs.Common.{◌≡◌, ℕ, zero, suc, ◌-◌, ◌≤◌, List, [], ◌∷◌, ◌++◌, length, drop, refl, sym, ap, subst, ◌∙◌, arith, length-append, length-drop, drop-drop}
use Rattle.std.proofs.lemmas.List.{drop_all, drop-append-le}
use Rattle.circular_buffer.specs.Buffer.{keep_last}

module _ {X : Type 0} where
  -- the last ones of more of the last ones
  pub last_of_last : (m n : ℕ) (xs : List X) → m ≤ n → keep_last m (keep_last n xs) ≡ keep_last m xs
  last_of_last m n xs below =
      ap (λ l. drop (l - m) (drop (length xs - n) xs)) (length-drop (length xs - n) xs)
      ∙ drop-drop (length xs - (length xs - n) - m) (length xs - n) xs
      ∙ ap (λ k. drop k xs) (omega arith)

  pub last_none : (xs : List X) → keep_last 0 xs ≡ []
  last_none xs = drop_all (length xs - 0) xs (omega arith)

  pub last_with : (k : ℕ) (xs : List X) (x : X) → keep_last (suc k) (xs ++ x ∷ []) ≡ keep_last k xs ++ x ∷ []
  last_with k xs x =
      ap (λ l. drop (l - suc k) (xs ++ x ∷ [])) (length-append xs (x ∷ []))
      ∙ ap (λ i. drop i (xs ++ x ∷ [])) (omega arith)
      ∙ drop-append-le (length xs - k) xs (x ∷ []) (omega arith)

  -- one item more leaves the last ones the same, where they were
  pub last_same : (m k : ℕ) (xs ys : List X) (x : X) → (m ≡ 0 → ⊥) → k ≡ m - 1 → keep_last k xs ≡ keep_last k ys
      → keep_last m (xs ++ x ∷ []) ≡ keep_last m (ys ++ x ∷ [])
  last_same zero k xs ys x some less alike = absurd (some refl)
  last_same (suc m) k xs ys x some less alike =
      let is : k ≡ m = omega arith in
      let both : keep_last m xs ≡ keep_last m ys = subst (λ n. keep_last n xs ≡ keep_last n ys) is alike in
      last_with m xs x ∙ ap (λ zs. zs ++ x ∷ []) both ∙ sym (last_with m ys x)
