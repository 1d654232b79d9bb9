-- One walk over the orders of two sets says whether the one has all names of the other.
use Rattle.std.proofs.Common.{◌≡◌, ◌+◌, ◌<◌, ◌≤◌, ℕ, suc, List, [], ◌∷◌, Bool, true, false, not, ◌&&◌, ◌||◌, None, find, length, map, get_or, refl, sym, subst, ap, ap₂, ◌∙◌, arith, add-one}
use native.Mathlib.Numerals.{unary_clauses}
use Rattle.std.specs.Cmp.Lexicographic.{slice_cmp}
use Rattle.std.specs.List.{list_all, list_any, range_with_len}
use Rattle.std.specs.List.Sorted.{IsPermutation, IsSortedByKey}
use Rattle.std.specs.Ordering.{nat_cmp, ordering_index, ordering_reverse, MatchOrdering}
use Rattle.std.specs.declared.cmp.Ordering.{Ordering}
use Rattle.std.specs.declared.cmp.Ordering.TheVariants.{Less, Equal, Greater}
use Rattle.std.proofs.lemmas.Cmp.{nat_list_cmp_total}
use Rattle.std.proofs.lemmas.List.Folds.{list_all-map}
use Rattle.std.proofs.lemmas.List.Sorted.{list_any-IsPermutation, searchable_from_sorted}
use Rattle.st_text.specs.Texts.{Text, same, is_among}
use Rattle.st_auth.specs.inner.Order.{IsOrder, name_at}
use Rattle.st_auth.proofs.Search.{all_names, among_in_order, none_of, other_when_less, other_when_greater, same_when_equal}

-- ---- lists whose elements all pass

all_by_any : {X : Type 0} (p : X → Bool) (xs : List X) → list_all p xs ≡ not (list_any (λ x. not (p x)) xs)
all_by_any p [] = refl
all_by_any p (x ∷ xs) = at (p x) (all_by_any p xs)
  where
    at : (b : Bool) → list_all p xs ≡ not (list_any (λ x. not (p x)) xs) → (b && list_all p xs) ≡ not (not b || list_any (λ x. not (p x)) xs)
    at true e = e
    at false e = refl

all_permuted : {X : Type 0} (p : X → Bool) (xs ys : List X) → IsPermutation xs ys → list_all p xs ≡ list_all p ys
all_permuted p xs ys h = all_by_any p xs ∙ ap not (list_any-IsPermutation (λ x. not (p x)) xs ys h) ∙ sym (all_by_any p ys)

all_alike : (p q : ℕ → Bool) (xs : List ℕ) → ((k : ℕ) → k < length xs → p (get_or xs k 0) ≡ q (get_or xs k 0)) → list_all p xs ≡ list_all q xs
all_alike p q [] h = refl
all_alike p q (x ∷ xs) h = ap₂ (λ (a b : Bool). a && b) (h 0 (omega arith)) (all_alike p q xs (λ k less. h (suc k) (omega arith)))

pub none_missing : {X : Type 0} (p : X → Bool) (xs : List X) → list_all p xs ≡ true → find (λ x. not (p x)) xs ≡ None
none_missing p [] e = refl
none_missing p (x ∷ xs) e = at (p x) refl e (none_missing p xs)
  where
    at : (b : Bool) → p x ≡ b → (b && list_all p xs) ≡ true → (list_all p xs ≡ true → find (λ x. not (p x)) xs ≡ None) → find (λ x. not (p x)) (x ∷ xs) ≡ None
    at true f e more = rw f (more e)
    at false f e more = cc

-- ---- the walk

-- whether each of these places of the one is the place of a name that stands at one of those places of the other
abbrev pub all_held : List Text → List Text → List ℕ → List ℕ → Bool
all_held names others ours theirs = list_all (λ y. list_any (same (name_at others y)) (map (name_at names) ours)) theirs

-- What is left of both orders decides it.
pub record Decide (names others : List Text) (ours theirs : List ℕ) : Type 0 where
  pub rest : list_all (is_among names) others ≡ all_held names others ours theirs
  pub ours_rise : IsSortedByKey (name_at names) (slice_cmp nat_cmp) ours
  pub theirs_rise : IsSortedByKey (name_at others) (slice_cmp nat_cmp) theirs

pub at_first : (names others : List Text) (ours theirs : List ℕ) → IsOrder names ours → IsOrder others theirs → Decide names others ours theirs
at_first names others ours theirs h k = record {
  rest =
      ap (list_all (is_among names)) (all_names others)
      ∙ list_all-map (is_among names) (name_at others) (range_with_len 0 (length others))
      ∙ all_permuted (λ y. is_among names (name_at others y)) (range_with_len 0 (length others)) theirs k.whole
      ∙ all_alike (λ y. is_among names (name_at others y)) (λ y. list_any (same (name_at others y)) (map (name_at names) ours)) theirs
      (λ i less. among_in_order names ours (name_at others (get_or theirs i 0)) h);
  ours_rise = h.rises;
  theirs_rise = k.rises;
}

without_first : (names : List Text) (x : ℕ) (xs : List ℕ) → IsSortedByKey (name_at names) (slice_cmp nat_cmp) (x ∷ xs) → IsSortedByKey (name_at names) (slice_cmp nat_cmp) xs
without_first names x xs h k d low less = let next = h (k + 1) d (omega arith) (omega (arith, less)) in rw add-one (simp unary_clauses at next)

-- what stands behind a greater name is greater too
behind : (names : List Text) (x : ℕ) (xs : List ℕ) (name : Text) → IsSortedByKey (name_at names) (slice_cmp nat_cmp) (x ∷ xs) → slice_cmp nat_cmp (name_at names x) name ≡ Greater →
    (k : ℕ) → k < length (x ∷ xs) → slice_cmp nat_cmp (name_at names (get_or (x ∷ xs) k 0)) name ≡ Greater
behind names x xs name h e k less =
    let up = searchable_from_sorted nat_list_cmp_total (name_at names) (x ∷ xs) name h 0 k 0 (omega arith) less in
    at (slice_cmp nat_cmp (name_at names (get_or (x ∷ xs) k 0)) name) (subst (λ o. ordering_index o ≤ ordering_index (slice_cmp nat_cmp (name_at names (get_or (x ∷ xs) k 0)) name)) e up)
  where
    at : (o : Ordering) → ordering_index Greater ≤ ordering_index o → o ≡ Greater
    at Less h = absurd (omega (arith, h))
    at Equal h = absurd (omega (arith, h))
    at Greater h = refl

when_less : (names others : List Text) (x y : ℕ) (xs ys : List ℕ) → slice_cmp nat_cmp (name_at names x) (name_at others y) ≡ Less
    → Decide names others (x ∷ xs) (y ∷ ys) → Decide names others xs (y ∷ ys)
when_less names others x y xs ys less d = record {
  rest =
      d.rest
      ∙ all_alike (λ t. list_any (same (name_at others t)) (map (name_at names) (x ∷ xs))) (λ t. list_any (same (name_at others t)) (map (name_at names) xs)) (y ∷ ys) (λ k inside.
      ap (λ b. b || list_any (same (name_at others (get_or (y ∷ ys) k 0))) (map (name_at names) xs)) (apart k inside));
  ours_rise = without_first names x xs d.ours_rise;
  theirs_rise = d.theirs_rise;
}
  where
    over : slice_cmp nat_cmp (name_at others y) (name_at names x) ≡ Greater
    over = nat_list_cmp_total.antisymm (name_at others y) (name_at names x) ∙ ap ordering_reverse less

    apart : (k : ℕ) → k < length (y ∷ ys) → same (name_at others (get_or (y ∷ ys) k 0)) (name_at names x) ≡ false
    apart k inside =
        let above = behind others y ys (name_at names x) d.theirs_rise over k inside in
        other_when_less (name_at names x) (name_at others (get_or (y ∷ ys) k 0)) (nat_list_cmp_total.antisymm (name_at names x) (name_at others (get_or (y ∷ ys) k 0)) ∙ ap ordering_reverse above)

when_equal : (names others : List Text) (x y : ℕ) (xs ys : List ℕ) → slice_cmp nat_cmp (name_at names x) (name_at others y) ≡ Equal
    → Decide names others (x ∷ xs) (y ∷ ys) → Decide names others (x ∷ xs) ys
when_equal names others x y xs ys equal d = record {
  rest = d.rest ∙ ap (λ b. (b || list_any (same (name_at others y)) (map (name_at names) xs)) && all_held names others (x ∷ xs) ys) (same_when_equal (name_at names x) (name_at others y) equal);
  ours_rise = d.ours_rise;
  theirs_rise = without_first others y ys d.theirs_rise;
}

when_greater : (names others : List Text) (x y : ℕ) (xs ys : List ℕ) → slice_cmp nat_cmp (name_at names x) (name_at others y) ≡ Greater
    → Decide names others (x ∷ xs) (y ∷ ys) → list_all (is_among names) others ≡ false
when_greater names others x y xs ys greater d =
    let none = none_of names (x ∷ xs) (name_at others y)
    (λ k inside. other_when_greater (name_at names (get_or (x ∷ xs) k 0)) (name_at others y)
    (behind names x xs (name_at others y) d.ours_rise greater k inside)) in
    d.rest ∙ ap (λ b. b && all_held names others (x ∷ xs) ys) none

-- What a step leaves, where both orders go on.
pub after_step : (names others : List Text) (x y : ℕ) (xs ys ours theirs : List ℕ) → ours ≡ x ∷ xs → theirs ≡ y ∷ ys → (o : Ordering)
    → slice_cmp nat_cmp (name_at names x) (name_at others y) ≡ o → Decide names others ours theirs →
    MatchOrdering o (Decide names others xs theirs) (Decide names others ours ys) (list_all (is_among names) others ≡ false)
after_step names others x y xs ys ours theirs e f o c d = at o c (subst (λ l. Decide names others (x ∷ xs) l) f (subst (λ l. Decide names others l theirs) e d))
  where
    at : (o : Ordering) → slice_cmp nat_cmp (name_at names x) (name_at others y) ≡ o → Decide names others (x ∷ xs) (y ∷ ys)
        → MatchOrdering o (Decide names others xs theirs) (Decide names others ours ys) (list_all (is_among names) others ≡ false)
    at Less c d = subst (λ l. Decide names others xs l) (sym f) (when_less names others x y xs ys c d)
    at Equal c d = subst (λ l. Decide names others l ys) (sym e) (when_equal names others x y xs ys c d)
    at Greater c d = when_greater names others x y xs ys c d
