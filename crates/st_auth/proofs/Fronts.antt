-- What texts spell compares as they do.
use Rattle.std.proofs.Common.{◌≡◌, ℕ, zero, suc, ◌<◌, ◌≢◌, ◌+◌, ◌*◌, List, [], ◌∷◌, map, take, drop, ◌++◌, ◌≤◌, length, subst, lit<, ◌⊎◌, ⊎_elim, inl, inr, refl, sym, ap, ◌∙◌, arith}
use Rattle.std.specs.Prelude.{slice_index, slice_index_or}
use Rattle.std.specs.Int.{w64, from_be_bytes}
use Rattle.std.specs.Cmp.{nat_cmp_is, ranks}
use Rattle.std.specs.Cmp.Lexicographic.{slice_cmp}
use Rattle.std.specs.Ordering.{nat_cmp, ordering_reverse, ordering_then, MatchOrdering}
use Rattle.std.specs.declared.cmp.Ordering.{Ordering}
use Rattle.std.specs.declared.cmp.Ordering.TheVariants.{Less, Equal, Greater}
use Rattle.std.proofs.lemmas.Cmp.{nat_list_cmp_total}
use Rattle.st_text.specs.Texts.{Text}
use Rattle.st_auth.specs.inner.Order.{name_at}
use Rattle.st_auth.specs.inner.Fronts.{spelt, front, AreBytes}

abbrev ComesFirst : Text → Text → Type 0
ComesFirst xs ys = slice_cmp nat_cmp xs ys ≡ Less

by_first : (x y : ℕ) (xs ys : Text) → x < y → ComesFirst (x ∷ xs) (y ∷ ys)
by_first x y xs ys less = ap (λ o. ordering_then o (slice_cmp nat_cmp xs ys)) (sym (nat_cmp_is x y Less less))

by_rest : (x y : ℕ) (xs ys : Text) → x ≡ y → ComesFirst xs ys → ComesFirst (x ∷ xs) (y ∷ ys)
by_rest x y xs ys e less = ap (λ o. ordering_then o (slice_cmp nat_cmp xs ys)) (sym (nat_cmp_is x y Equal e)) ∙ less

not_before_none : (xs : Text) → ComesFirst xs [] → ⊥
not_before_none [] e = cc
not_before_none (x ∷ xs) e = cc

-- the lesser number is that of the lesser text, unless what stood before them was less
spelt_less : (k a b : ℕ) (xs ys : Text) → AreBytes xs → AreBytes ys → spelt k a xs < spelt k b ys → (a < b) ⊎ ((a ≡ b) × ComesFirst xs ys)
unfolding spelt
spelt_less zero a b xs ys small small' less = inl less
spelt_less (suc k) a b [] [] small small' less =
    ⊎_elim (λ l. inl (omega arith)) (λ h. absurd (not_before_none [] h.1)) (spelt_less k (a * 256) (b * 256) [] [] small small' less)
spelt_less (suc k) a b [] (y ∷ ys) small small' less = first (spelt_less k (a * 256) (b * 256 + y) [] ys small (λ i. small' (suc i)) less)
  where
    first : (a * 256 < b * 256 + y) ⊎ ((a * 256 ≡ b * 256 + y) × ComesFirst [] ys) → (a < b) ⊎ ((a ≡ b) × ComesFirst [] (y ∷ ys))
    first h = let s : y < 256 = small' 0 in ⊎_elim (λ l. either (nat_cmp a b) (ranks a b) l) (λ e. let q : a ≡ b = omega (arith, e.0) in inr (q, refl)) h
      where
        either : (o : Ordering) → MatchOrdering o (a < b) (a ≡ b) (b < a) → a * 256 < b * 256 + y → (a < b) ⊎ ((a ≡ b) × ComesFirst [] (y ∷ ys))
        either Less r l = inl r
        either Equal r l = inr (r, refl)
        either Greater r l = let s : y < 256 = small' 0 in let g : b < a = r in absurd (omega arith)
spelt_less (suc k) a b (x ∷ xs) [] small small' less =
    ⊎_elim (λ l. inl (omega arith)) (λ h. absurd (not_before_none xs h.1)) (spelt_less k (a * 256 + x) (b * 256) xs [] (λ i. small (suc i)) small' less)
spelt_less (suc k) a b (x ∷ xs) (y ∷ ys) small small' less =
    by (nat_cmp a b) (ranks a b) (nat_cmp x y) (ranks x y) (spelt_less k (a * 256 + x) (b * 256 + y) xs ys (λ i. small (suc i)) (λ i. small' (suc i)) less)
  where
    by : (o : Ordering) → MatchOrdering o (a < b) (a ≡ b) (b < a) → (p : Ordering) → MatchOrdering p (x < y) (x ≡ y) (y < x)
        → (a * 256 + x < b * 256 + y) ⊎ ((a * 256 + x ≡ b * 256 + y) × ComesFirst xs ys) → (a < b) ⊎ ((a ≡ b) × ComesFirst (x ∷ xs) (y ∷ ys))
    by Less h p q r = inl h
    by Equal h Less q r = inr (h, by_first x y xs ys q)
    by Equal h Equal q r = let e : a ≡ b = h in let f : x ≡ y = q in ⊎_elim (λ l. absurd (omega arith)) (λ it. inr (h, by_rest x y xs ys q it.1)) r
    by Equal h Greater q r = let e : a ≡ b = h in let g : y < x = q in ⊎_elim (λ l. absurd (omega arith)) (λ it. absurd (omega (arith, it.0))) r
    by Greater h p q r =
        let g : b < a = h in let s : x < 256 = small 0 in let s' : y < 256 = small' 0 in ⊎_elim (λ l. absurd (omega arith)) (λ it. absurd (omega (arith, it.0))) r

front_less : (xs ys : Text) → AreBytes xs → AreBytes ys → front xs < front ys → ComesFirst xs ys
front_less xs ys small small' less = ⊎_elim (λ l. absurd (omega arith)) (λ h. h.1) (spelt_less 8 0 0 xs ys small small' less)

-- texts whose first bytes spell different numbers compare as these do
pub fronts_decide : (xs ys : Text) → AreBytes xs → AreBytes ys → front xs ≢ front ys → nat_cmp (front xs) (front ys) ≡ slice_cmp nat_cmp xs ys
fronts_decide xs ys small small' apart = by (nat_cmp (front xs) (front ys)) (ranks (front xs) (front ys))
  where
    by : (o : Ordering) → MatchOrdering o (front xs < front ys) (front xs ≡ front ys) (front ys < front xs) → o ≡ slice_cmp nat_cmp xs ys
    by Less h = sym (front_less xs ys small small' h)
    by Equal h = absurd (apart h)
    by Greater h = sym (nat_list_cmp_total.antisymm xs ys ∙ ap ordering_reverse (front_less ys xs small' small h))

-- ---- how it is computed

next_digit : (k n : ℕ) (text : Text) → spelt (suc k) n text ≡ spelt k (n * 256 + slice_index text 0) (drop 1 text)
unfolding spelt
next_digit k n [] = ap (λ m. spelt k m []) (omega arith)
next_digit k n (b ∷ bytes) = refl

-- the number that so many bytes from j on spell after n
spelt_from : Text → ℕ → ℕ → ℕ → ℕ
spelt_from text zero n j = n
spelt_from text (suc k) n j = spelt_from text k (n * 256 + slice_index text j) (suc j)

by_place : (text : Text) (k n j : ℕ) → spelt k n (drop j text) ≡ spelt_from text k n j
unfolding spelt spelt_from
by_place text zero n j = refl
by_place text (suc k) n j =
    next_digit k n (drop j text) ∙ ap (λ m. spelt k m (drop 1 (drop j text))) (ap (λ b. n * 256 + b) (first_of_drop text j)) ∙ ap (spelt k (n * 256 + slice_index text j)) (drop_one_more text j)
    ∙ by_place text k (n * 256 + slice_index text j) (suc j)
  where
    first_of_drop : (text : Text) (j : ℕ) → slice_index (drop j text) 0 ≡ slice_index text j
    first_of_drop text zero = refl
    first_of_drop [] (suc j) = refl
    first_of_drop (b ∷ bytes) (suc j) = first_of_drop bytes j

    drop_one_more : (text : Text) (j : ℕ) → drop 1 (drop j text) ≡ drop (suc j) text
    drop_one_more text zero = refl
    drop_one_more [] (suc j) = refl
    drop_one_more (b ∷ bytes) (suc j) = drop_one_more bytes j

-- the first 8 bytes as a number of 64 bits
pub front_of_bytes : (text : Text) → front text
    ≡ from_be_bytes w64
    (slice_index text 0 ∷ slice_index text 1 ∷ slice_index text 2 ∷ slice_index text 3 ∷ slice_index text 4 ∷ slice_index text 5 ∷ slice_index text 6 ∷ slice_index text 7 ∷ [])
unfolding spelt_from
front_of_bytes text = by_place text 8 0 0 ∙ omega arith

pub past_the_end : (names : List Text) (place : ℕ) → length (map front names) ≤ place → name_at names place ≡ []
past_the_end [] place past = refl
past_the_end (x ∷ xs) zero past = absurd (omega (arith, past))
past_the_end (x ∷ xs) (suc i) past = past_the_end xs i (omega (arith, past))

one_more : (names : List Text) (count : ℕ) (name : Text) → count < length names → name ≡ slice_index_or names count name
    → map front (take count names) ++ front name ∷ [] ≡ map front (take (suc count) names)
one_more [] count name inside here = absurd (omega (arith, inside))
one_more (x ∷ xs) zero name inside here = ap (λ it. front it ∷ []) here
one_more (x ∷ xs) (suc i) name inside here = ap (λ it. front x ∷ it) (one_more xs i name (omega (arith, inside)) here)

pub one_more_front : (names : List Text) (count : ℕ) (name : Text) → count < length names → name ≡ slice_index_or names count name
    → map front (take count names) ++ front name ∷ [] ≡ map front (take (count + 1) names)
one_more_front names count name inside here =
    let next : suc count ≡ count + 1 = omega arith in
    one_more names count name inside here ∙ ap (λ n. map front (take n names)) next

-- ---- that all are bytes, name by name

none_is_bytes : AreBytes []
none_is_bytes i = lit< tt

at_place : (names : List Text) (count : ℕ) (name : Text) → count < length names → name ≡ slice_index_or names count name → name_at names count ≡ name
at_place [] count name inside here = absurd (omega (arith, inside))
at_place (x ∷ xs) zero name inside here = sym here
at_place (x ∷ xs) (suc i) name inside here = at_place xs i name (omega (arith, inside)) here

pub one_more_is_bytes : (names : List Text) (count : ℕ) (name : Text) → count < length names → name ≡ slice_index_or names count name → AreBytes name
    → ((place : ℕ) → place < count → AreBytes (name_at names place)) → (place : ℕ) → place < count + 1 → AreBytes (name_at names place)
one_more_is_bytes names count name inside here small before place below = by (nat_cmp place count) (ranks place count)
  where
    by : (o : Ordering) → MatchOrdering o (place < count) (place ≡ count) (count < place) → AreBytes (name_at names place)
    by Less h = before place h
    by Equal h = subst AreBytes (sym (ap (name_at names) h ∙ at_place names count name inside here)) small
    by Greater h = let g : count < place = h in absurd (omega arith)

pub all_are_bytes : (names : List Text) → ((place : ℕ) → place < length names → AreBytes (name_at names place)) → (place : ℕ) → AreBytes (name_at names place)
all_are_bytes [] small place = none_is_bytes
all_are_bytes (x ∷ xs) small zero = small 0 (omega arith)
all_are_bytes (x ∷ xs) small (suc i) = all_are_bytes xs (λ j inside. small (suc j) (omega arith)) i
