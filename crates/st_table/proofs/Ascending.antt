-- Rows in scan order, key after key.
use Rattle.std.proofs.Common.{◌≡◌, ℕ, ◌+◌, ◌<◌, ◌≤◌, List, [], ◌∷◌, ◌++◌, filter, get_or, Bool, true, false, ◌&&◌, nat_eq, nat_lt, refl, sym, ap, ◌∙◌, arith, ⊎_elim}
use Rattle.std.specs.List.{All}
use Rattle.std.proofs.lemmas.Bool.{eq-eqb, eqb-true, cases_eq, cases_lt}
use Rattle.std.proofs.lemmas.Bool.Decides.{nat_tests}
use Rattle.std.proofs.lemmas.List.Elements.{All-head, All-tail}
use Rattle.st_key.specs.declared.period.Period.{Period}
use Rattle.st_text.specs.Texts.{comes_before}
use Rattle.st_text.proofs.Sorted.{one_before}
use Rattle.st_index.specs.declared.row.Row.{Row}
use Rattle.st_index.specs.Order.{InScanOrder, scan_key}
use Rattle.st_index.specs.inner.Entries.{rank_of}
use Rattle.st_index.proofs.Scanning.{before_by_place}
use Rattle.st_table.proofs.Standing.{filter_none}

lt_yes : (a b : ℕ) → a < b → nat_lt a b ≡ true
lt_yes a b h = grind (arith, nat_tests)

lt_no : (a b : ℕ) → b ≤ a → nat_lt a b ≡ false
lt_no a b h = grind (arith, nat_tests)

lt_is : (a b : ℕ) → nat_lt a b ≡ true → a < b
lt_is a b h = grind (arith, nat_tests)

pub eq_no : (a b : ℕ) → (a ≡ b → ⊥) → nat_eq a b ≡ false
eq_no a b ne = at (nat_eq a b) refl
  where
    at : (b' : Bool) → nat_eq a b ≡ b' → nat_eq a b ≡ false
    at true e = absurd (ne (eqb-true a b e))
    at false e = e

filter_same : {X : Type 0} (f g : X → Bool) (xs : List X) → All (λ x. f x ≡ g x) xs → filter f xs ≡ filter g xs
filter_same f g [] h = refl
filter_same {X} f g (x ∷ xs) h = at (f x) refl (All-head (λ y. f y ≡ g y) x xs h) (filter_same f g xs (All-tail (λ y. f y ≡ g y) x xs h))
  where
    at : (b : Bool) → f x ≡ b → f x ≡ g x → filter f xs ≡ filter g xs → filter f (x ∷ xs) ≡ filter g (x ∷ xs)
    at true e same ih = let k : g x ≡ true = sym same ∙ e in simp (e, k, ih)
    at false e same ih = let k : g x ≡ false = sym same ∙ e in simp (e, k, ih)

module _ {A : Type 0} (period : Period) where
  abbrev rank : Row A → ℕ
  rank r = rank_of period r

  abbrev RanksRise : List (Row A) → Type 0
  RanksRise [] = Unit {0}
  RanksRise (x ∷ xs) = All (λ y. rank x ≤ rank y) xs × RanksRise xs

  not_after : (x y : Row A) → comes_before (scan_key period x) (scan_key period y) ≡ true → rank x ≤ rank y
  not_after x y h =
      ⊎_elim (λ less. absurd (clash (sym (one_before (scan_key period x) (scan_key period y) h) ∙ before_by_place period y x less))) (λ le. le) (cases_lt (rank y) (rank x))
    where
      clash : false ≡ true → ⊥
      clash p = cc

  ranks_rise : (xs : List (Row A)) → InScanOrder period xs → RanksRise xs
  ranks_rise [] h = tt
  ranks_rise (x ∷ xs) h = (λ k d l. not_after x (get_or xs k d) (h.0 k d l), ranks_rise xs h.1)

  module _ (p : Row A → Bool) where
    abbrev below : ℕ → Row A → Bool
    below k r = p r && nat_lt (rank r) k

    abbrev stands : ℕ → Row A → Bool
    stands k r = nat_eq (rank r) k

    none_below : (k : ℕ) (xs : List (Row A)) → All (λ r. k ≤ rank r) xs → filter (below k) xs ≡ []
    none_below k xs h = filter_none (below k) xs (λ i d l e.
        let r : Row A = get_or xs i d in
        let low = h i d l in
        let lt = lt_is (rank r) k (second (p r) (nat_lt (rank r) k) e) in
        omega (arith, low, lt))
      where
        second : (a b : Bool) → (a && b) ≡ true → b ≡ true
        second true b h = h
        second false b h = cc

    next_rise : (k : ℕ) (xs : List (Row A)) → RanksRise xs → filter (below (k + 1)) xs ≡ filter (below k) xs ++ filter p (filter (stands k) xs)
    next_rise k [] h = refl
    next_rise k (x ∷ xs) h = at (p x) refl (next_rise k xs h.1)
      where
        hidden : (b : Bool) → stands k x ≡ b → p x ≡ false → filter (below (k + 1)) xs ≡ filter (below k) xs ++ filter p (filter (stands k) xs)
            → filter (below (k + 1)) (x ∷ xs) ≡ filter (below k) (x ∷ xs) ++ filter p (filter (stands k) (x ∷ xs))
        hidden true s e ih = simp (e, s, ih)
        hidden false s e ih = simp (e, s, ih)

        at : (b : Bool) → p x ≡ b → filter (below (k + 1)) xs ≡ filter (below k) xs ++ filter p (filter (stands k) xs)
            → filter (below (k + 1)) (x ∷ xs) ≡ filter (below k) (x ∷ xs) ++ filter p (filter (stands k) (x ∷ xs))
        at false e ih = hidden (stands k x) refl e ih
        at true e ih =
            ⊎_elim
            (λ less.
            let a = lt_yes (rank x) (k + 1) (omega (arith, less)) in
            let b = lt_yes (rank x) k less in
            let s = eq_no (rank x) k (λ q. omega (arith, less, q)) in
            simp (e, a, b, s, ih))
            (λ not_less.
            ⊎_elim
            (λ same.
            let a = lt_yes (rank x) (k + 1) (omega (arith, same)) in
            let b = lt_no (rank x) k not_less in
            let s = eq-eqb (rank x) k same in
            let none = none_below k xs (λ i d l. let q = h.0 i d l in omega (arith, q, same)) in
            let whole : filter (below (k + 1)) xs ≡ filter p (filter (stands k) xs) = ih ∙ ap (λ ys. ys ++ filter p (filter (stands k) xs)) none in
            simp (e, a, b, s, none, whole))
            (λ ne.
            let a = lt_no (rank x) (k + 1) (omega (arith, not_less, ne)) in
            let b = lt_no (rank x) k not_less in
            let s = eq_no (rank x) k ne in
            simp (e, a, b, s, ih))
            (cases_eq (rank x) k))
            (cases_lt (rank x) k)

    -- what passes below a key is what passes below an earlier one, where none passes between
    pub skip : (low k : ℕ) (xs : List (Row A)) → low ≤ k → All (λ r. p r ≡ true → low ≤ rank r → rank r < k → ⊥) xs → filter (below low) xs ≡ filter (below k) xs
    skip low k xs le none = filter_same (below low) (below k) xs (λ i d l. at (get_or xs i d) (p (get_or xs i d)) refl (none i d l))
      where
        at : (r : Row A) (b : Bool) → p r ≡ b → (p r ≡ true → low ≤ rank r → rank r < k → ⊥) → below low r ≡ below k r
        at r false e none = simp e
        at r true e none =
            ⊎_elim (λ less. let a = lt_yes (rank r) low less in let b = lt_yes (rank r) k (omega (arith, less, le)) in simp (a, b))
            (λ from.
            ⊎_elim (λ less. absurd (none e from less)) (λ above. let a = lt_no (rank r) low from in let b = lt_no (rank r) k above in simp (a, b)) (cases_lt (rank r) k))
            (cases_lt (rank r) low)

    -- the rows of the next key, after those of earlier keys
    pub next_key : (low k : ℕ) (xs : List (Row A)) → InScanOrder period xs → low ≤ k → All (λ r. p r ≡ true → low ≤ rank r → rank r < k → ⊥) xs
        → filter (below low) xs ++ filter p (filter (stands k) xs) ≡ filter (below (k + 1)) xs
    next_key low k xs sorted le none =
        ap (λ ys. ys ++ filter p (filter (stands k) xs)) (skip low k xs le none) ∙ sym (next_rise k xs (ranks_rise xs sorted))

    pub all_keys : (low : ℕ) (xs : List (Row A)) → All (λ r. p r ≡ true → low ≤ rank r → ⊥) xs → filter (below low) xs ≡ filter p xs
    all_keys low xs none = filter_same (below low) p xs (λ i d l. at (get_or xs i d) (p (get_or xs i d)) refl (none i d l))
      where
        at : (r : Row A) (b : Bool) → p r ≡ b → (p r ≡ true → low ≤ rank r → ⊥) → below low r ≡ p r
        at r false e none = simp e
        at r true e none = ⊎_elim (λ less. let a = lt_yes (rank r) low less in simp (e, a)) (λ from. absurd (none e from)) (cases_lt (rank r) low)

    pub no_keys : (xs : List (Row A)) → [] ≡ filter (below 0) xs
    no_keys xs = sym (none_below 0 xs (λ i d l. omega arith))
