-- A search in a set's order finds just its names.
use Rattle.std.proofs.Common.{◌≡◌, ◌≢◌, ◌+◌, ◌<◌, ℕ, zero, suc, List, [], ◌∷◌, ◌++◌, Bool, true, false, not, Result, Ok, Err, length, map, get_or}
use Rattle.std.proofs.Common.{refl, sym, subst, ap, ap₂, take, ◌∙◌, arith, add-one, is_ok}
use lib.Dec.{ltb}
use Rattle.std.proofs.lemmas.Bool.{ltb-true, ltb-false}
use Rattle.std.specs.Cmp.{Equal-is}
use Rattle.std.specs.Cmp.Lexicographic.{slice_cmp}
use Rattle.std.specs.List.{All, list_any, range_with_len}
use Rattle.std.specs.List.Sorted.{IsBinarySearchResult, IsSearchInRange, IsPartitionPoint}
use Rattle.std.specs.Ordering.{nat_cmp, is_eq}
use Rattle.std.specs.declared.cmp.Ordering.TheVariants.{Less, Equal, Greater}
use Rattle.std.proofs.lemmas.Cmp.{nat_list_cmp_total}
use Rattle.std.proofs.lemmas.List.{get_or-map, length-map, take_more}
use Rattle.std.proofs.lemmas.List.Folds.{list_any_at}
use Rattle.std.proofs.lemmas.List.FromFn.{fill_by_all, get_or-range_with_len, length-range_with_len}
use Rattle.std.proofs.lemmas.List.Sorted.{All-permutation, IsPermutation-map, list_any-IsPermutation, searchable_from_sorted}
use Rattle.std.proofs.lemmas.Map.Text.{is_eq-slice_cmp}
use Rattle.st_text.specs.Texts.{Text, same, is_among}
use Rattle.st_text.proofs.Same.{same-eq, same-refl}
use Rattle.st_auth.specs.inner.Order.{IsOrder, name_at}

-- ---- texts that compare equal are the same

self_equal : (a : Text) → slice_cmp nat_cmp a a ≡ Equal
self_equal a = (Equal-is (slice_cmp nat_cmp a a)).0 (is_eq-slice_cmp a a ∙ same-refl a)

pub same_when_equal : (a b : Text) → slice_cmp nat_cmp a b ≡ Equal → same b a ≡ true
same_when_equal a b e =
    let is : a ≡ b = same-eq a b (sym (is_eq-slice_cmp a b) ∙ ap is_eq e) in
    rw is (same-refl b)

other_by : (a b : Text) (v : Bool) → same b a ≡ v → slice_cmp nat_cmp a b ≢ Equal → same b a ≡ false
other_by a b false e h = e
other_by a b true e h =
    let is : b ≡ a = same-eq b a e in
    absurd (h (rw is (self_equal a)))

pub other_when_less : (a b : Text) → slice_cmp nat_cmp a b ≡ Less → same b a ≡ false
other_when_less a b e = other_by a b _ refl (λ k. let both : Less ≡ Equal = sym e ∙ k in cc)

pub other_when_greater : (a b : Text) → slice_cmp nat_cmp a b ≡ Greater → same b a ≡ false
other_when_greater a b e = other_by a b _ refl (λ k. let both : Greater ≡ Equal = sym e ∙ k in cc)

-- ---- the search

pub all_names : (names : List Text) → names ≡ map (name_at names) (range_with_len 0 (length names))
all_names names = fill_by_all (name_at names) names (length names) [] refl (λ k less. refl)

pub places_inside : (names : List Text) (order : List ℕ) → IsOrder names order → All (λ place. place < length names) order
places_inside names order h =
    let places = range_with_len 0 (length names) in
    All-permutation (λ place. place < length names) places order h.whole (λ k d less.
    let inside = subst (λ n. k < n) (length-range_with_len 0 (length names)) less in
    rw (get_or-range_with_len 0 (length names) k d inside) (omega (inside, arith)))

pub among_in_order : (names : List Text) (order : List ℕ) (name : Text) → IsOrder names order → is_among names name ≡ list_any (same name) (map (name_at names) order)
among_in_order names order name h =
    ap (list_any (same name)) (all_names names)
    ∙ list_any-IsPermutation (same name) (map (name_at names) (range_with_len 0 (length names))) (map (name_at names) order)
    (IsPermutation-map (name_at names) (range_with_len 0 (length names)) order h.whole)

pub none_of : (names : List Text) (order : List ℕ) (name : Text) → ((k : ℕ) → k < length order → same name (name_at names (get_or order k 0)) ≡ false)
    → list_any (same name) (map (name_at names) order) ≡ false
none_of names [] name h = refl
none_of names (i ∷ order) name h = rw (h 0 (omega arith)) (none_of names order name (λ k less. h (suc k) (omega arith)))

parted : (names : List Text) (order : List ℕ) (name : Text) (i : ℕ)
    → IsPartitionPoint (λ y. slice_cmp nat_cmp (name_at names y) name ≡ Less) (λ y. slice_cmp nat_cmp (name_at names y) name ≡ Greater) order i →
    (k : ℕ) → k < length order → same name (name_at names (get_or order k 0)) ≡ false
parted names order name i h k less = by_side names order name i k h less (ltb k i) refl
  where
    by_side : (names : List Text) (order : List ℕ) (name : Text) (i k : ℕ)
        → IsPartitionPoint (λ y. slice_cmp nat_cmp (name_at names y) name ≡ Less) (λ y. slice_cmp nat_cmp (name_at names y) name ≡ Greater) order i →
        k < length order → (v : Bool) → ltb k i ≡ v → same name (name_at names (get_or order k 0)) ≡ false
    by_side names order name i k h less true e = other_when_less (name_at names (get_or order k 0)) name (h.0 k 0 (omega arith) (ltb-true k i e))
    by_side names order name i k h less false e = other_when_greater (name_at names (get_or order k 0)) name (h.1 k 0 (ltb-false k i e) less)

pub found : (names : List Text) (order : List ℕ) (name : Text) (r : Result ℕ ℕ) → IsOrder names order → IsSearchInRange r (length order)
    → IsBinarySearchResult (λ y. slice_cmp nat_cmp (name_at names y) name) order r →
    is_ok r ≡ is_among names name
found names order name (Ok i) h inside is =
    let at : name_at names (get_or order i 0) ≡ get_or (map (name_at names) order) i [] = sym (get_or-map (name_at names) order i 0 [] inside) in
    let one : same name (get_or (map (name_at names) order) i []) ≡ true = rw (sym at) (same_when_equal (name_at names (get_or order i 0)) name (is 0)) in
    sym (among_in_order names order name h ∙ list_any_at (same name) (map (name_at names) order) i [] (rw (length-map order (name_at names)) inside) one)
found names order name (Err i) h inside is =
    let parts = is (searchable_from_sorted nat_list_cmp_total (name_at names) order name h.rises) in
    sym (among_in_order names order name h ∙ none_of names order name (parted names order name i parts))

-- ---- the order

range_more_from : (n a : ℕ) → range_with_len a (suc n) ≡ range_with_len a n ++ (a + n) ∷ []
range_more_from zero a = ap (λ (k : ℕ). k ∷ []) (omega arith)
range_more_from (suc n) a =
    let shift : (a + 1) + n ≡ a + suc n = omega arith in
    ap (λ l. a ∷ l) (range_more_from n (a + 1) ∙ ap (λ (k : ℕ). range_with_len (a + 1) n ++ k ∷ []) shift)

pub range_more : (n : ℕ) → range_with_len 0 (n + 1) ≡ range_with_len 0 n ++ n ∷ []
range_more n = rw add-one (range_more_from n 0 ∙ ap (λ (k : ℕ). range_with_len 0 n ++ k ∷ []) (omega arith))

-- ---- lists that are the same up to a place

pub one_more_same : (xs ys : List Text) (i : ℕ) (a b : Text) → i < length xs → i < length ys → a ≡ get_or xs i a → b ≡ get_or ys i b → a ≡ b → take i xs ≡ take i ys → take (i + 1) xs ≡ take (i + 1) ys
one_more_same xs ys i a b h k at other is before =
    take_more xs i a h
    ∙ ap₂ (λ (l : List Text) (t : Text). l ++ t ∷ []) before (sym at ∙ is ∙ other)
    ∙ sym (take_more ys i b k)

pub not_false : (b : Bool) → not b ≡ false → b ≡ true
not_false true e = refl
not_false false e = cc
