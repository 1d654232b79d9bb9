-- The digits of points come in the order of the highest level at which the points differ.
use Rattle.std.proofs.Common.{◌↔◌, ◌≡◌, ℕ, zero, suc, ◌/◌, ◌%◌, ◌^◌, ◌<◌, ◌≤◌, ◌⊎◌, List, ◌∷◌, Bool, true, false, nat_lt, refl, sym, ◌∙◌, ap, subst, arith}
use mathlib.Core.Logic.{inl, inr}
use Rattle.std.proofs.Math.Bool.{true≢false}
use Rattle.std.proofs.lemmas.Nat.Bits.{bit_at_above}
use Rattle.std.specs.Int.{bit_at}
use Rattle.std.specs.Cmp.{ranks, nat_cmp_is}
use Rattle.std.specs.Cmp.Lexicographic.{slice_cmp}
use Rattle.std.specs.Ordering.{nat_cmp, is_lt, ordering_then, MatchOrdering}
use Rattle.std.specs.declared.cmp.Ordering.{Ordering}
use Rattle.std.specs.declared.cmp.Ordering.TheVariants.{Less, Equal, Greater}
use Rattle.st_key.specs.declared.period.Period.{Period}
use Rattle.st_key.specs.declared.period.Period.TheVariants.{Day, Week}
use Rattle.st_key.specs.declared.point.Point.{Point}
use Rattle.st_key.specs.Period.{seconds_of}
use Rattle.st_key.specs.Order.{Spot, spot_of, bits_below, digits_of}
use Rattle.st_key.specs.inner.Levels.{SameAbove, FirstAt, ComesBefore}

abbrev pub Lt : List ℕ → List ℕ → Type 0
Lt xs ys = is_lt (slice_cmp nat_cmp xs ys) ≡ true

pub split : (a b : ℕ) (xs ys : List ℕ) → Lt (a ∷ xs) (b ∷ ys) → (a < b) ⊎ ((a ≡ b) × Lt xs ys)
split a b xs ys h = at (nat_cmp a b) (ranks a b) h
  where
    at : (o : Ordering) → MatchOrdering o (a < b) (a ≡ b) (b < a) → is_lt (ordering_then o (slice_cmp nat_cmp xs ys)) ≡ true → (a < b) ⊎ ((a ≡ b) × Lt xs ys)
    at Less m h = inl m
    at Equal m h = inr (m, h)
    at Greater m h = absurd (true≢false (sym h))

pub join_less : (a b : ℕ) (xs ys : List ℕ) → a < b → Lt (a ∷ xs) (b ∷ ys)
join_less a b xs ys h = ap (λ o. is_lt (ordering_then o (slice_cmp nat_cmp xs ys))) (sym (nat_cmp_is a b Less h))

pub join_same : (a b : ℕ) (xs ys : List ℕ) → a ≡ b → Lt xs ys → Lt (a ∷ xs) (b ∷ ys)
join_same a b xs ys e h = ap (λ o. is_lt (ordering_then o (slice_cmp nat_cmp xs ys))) (sym (nat_cmp_is a b Equal e)) ∙ h

-- between two levels the bits are the same
pub record SameBetween (level n : ℕ) (a b : Spot) : Type 0 where
  pub x : (i : ℕ) → level < i → i < n → bit_at a.x i ≡ bit_at b.x i
  pub y : (i : ℕ) → level < i → i < n → bit_at a.y i ≡ bit_at b.y i
  pub offset : (i : ℕ) → level < i → i < n → bit_at a.offset i ≡ bit_at b.offset i

pub record Decided (n : ℕ) (a b : Spot) : Type 0 where
  pub level : ℕ
  pub below : level < n
  pub same : SameBetween level n a b
  pub first : FirstAt level a b

-- what holds at each level up to here, and here
one_more : (f g : ℕ → ℕ) (level n : ℕ) → ((i : ℕ) → level < i → i < n → f i ≡ g i) → f n ≡ g n → (i : ℕ) → level < i → i < suc n → f i ≡ g i
one_more f g level n below here i above within = at (nat_lt i n) refl
  where
    at : (b : Bool) → nat_lt i n ≡ b → f i ≡ g i
    at true e = below i above (grind (arith, e))
    at false e = let same : n ≡ i = grind (arith, e) in subst (λ k. f k ≡ g k) same here

decided_here : (n : ℕ) (a b : Spot) → FirstAt n a b → Decided (suc n) a b
decided_here n a b first = record {
  level = n;
  below = omega arith;
  first = first;
  same = record { x = λ i above within. absurd (omega arith); y = λ i above within. absurd (omega arith); offset = λ i above within. absurd (omega arith) };
}

pub decided : (n : ℕ) (a b : Spot) → Lt (bits_below n a) (bits_below n b) → Decided n a b
unfolding bits_below
decided zero a b h = absurd (true≢false (sym h))
decided (suc n) a b h = at_offset (split (bit_at a.offset n) (bit_at b.offset n) (bit_at a.y n ∷ bit_at a.x n ∷ bits_below n a) (bit_at b.y n ∷ bit_at b.x n ∷ bits_below n b) h) (decided n a b)
  where
    later : bit_at a.offset n ≡ bit_at b.offset n → bit_at a.y n ≡ bit_at b.y n → bit_at a.x n ≡ bit_at b.x n → Decided n a b → Decided (suc n) a b
    later eo ey ex d = record {
      level = d.level;
      below = let h : d.level < n = d.below in omega arith;
      first = d.first;
      same = record {
        x = one_more (λ i. bit_at a.x i) (λ i. bit_at b.x i) d.level n d.same.x ex;
        y = one_more (λ i. bit_at a.y i) (λ i. bit_at b.y i) d.level n d.same.y ey;
        offset = one_more (λ i. bit_at a.offset i) (λ i. bit_at b.offset i) d.level n d.same.offset eo;
      };
    }

    at_x : bit_at a.offset n ≡ bit_at b.offset n → bit_at a.y n ≡ bit_at b.y n →
        ((bit_at a.x n < bit_at b.x n) ⊎ ((bit_at a.x n ≡ bit_at b.x n) × Lt (bits_below n a) (bits_below n b))) → (Lt (bits_below n a) (bits_below n b) → Decided n a b) → Decided (suc n) a b
    at_x eo ey (inl less) ih = decided_here n a b (inr (eo, inr (ey, less)))
    at_x eo ey (inr r) ih = later eo ey r.0 (ih r.1)

    at_y : bit_at a.offset n ≡ bit_at b.offset n →
        ((bit_at a.y n < bit_at b.y n) ⊎ ((bit_at a.y n ≡ bit_at b.y n) × Lt (bit_at a.x n ∷ bits_below n a) (bit_at b.x n ∷ bits_below n b)))
        → (Lt (bits_below n a) (bits_below n b) → Decided n a b) → Decided (suc n) a b
    at_y eo (inl less) ih = decided_here n a b (inr (eo, inl less))
    at_y eo (inr r) ih = at_x eo r.0 (split (bit_at a.x n) (bit_at b.x n) (bits_below n a) (bits_below n b) r.1) ih

    at_offset : ((bit_at a.offset n < bit_at b.offset n)
        ⊎ ((bit_at a.offset n ≡ bit_at b.offset n)
        × Lt (bit_at a.y n ∷ bit_at a.x n ∷ bits_below n a) (bit_at b.y n ∷ bit_at b.x n ∷ bits_below n b))) →
        (Lt (bits_below n a) (bits_below n b) → Decided n a b) → Decided (suc n) a b
    at_offset (inl less) ih = decided_here n a b (inl less)
    at_offset (inr r) ih = at_y r.0 (split (bit_at a.y n) (bit_at b.y n) (bit_at a.x n ∷ bits_below n a) (bit_at b.x n ∷ bits_below n b) r.1) ih

-- three digits of the same level ahead of the rest
offset_less : (n : ℕ) (a b : Spot) → bit_at a.offset n < bit_at b.offset n → Lt (bits_below (suc n) a) (bits_below (suc n) b)
unfolding bits_below
offset_less n a b less =
    join_less (bit_at a.offset n) (bit_at b.offset n) (bit_at a.y n ∷ bit_at a.x n ∷ bits_below n a) (bit_at b.y n ∷ bit_at b.x n ∷ bits_below n b) less

offset_same : (n : ℕ) (a b : Spot) → bit_at a.offset n ≡ bit_at b.offset n → Lt (bit_at a.y n ∷ bit_at a.x n ∷ bits_below n a) (bit_at b.y n ∷ bit_at b.x n ∷ bits_below n b) →
    Lt (bits_below (suc n) a) (bits_below (suc n) b)
unfolding bits_below
offset_same n a b e h =
    join_same (bit_at a.offset n) (bit_at b.offset n) (bit_at a.y n ∷ bit_at a.x n ∷ bits_below n a) (bit_at b.y n ∷ bit_at b.x n ∷ bits_below n b) e h

y_same : (n : ℕ) (a b : Spot) → bit_at a.y n ≡ bit_at b.y n → Lt (bit_at a.x n ∷ bits_below n a) (bit_at b.x n ∷ bits_below n b) →
    Lt (bit_at a.y n ∷ bit_at a.x n ∷ bits_below n a) (bit_at b.y n ∷ bit_at b.x n ∷ bits_below n b)
y_same n a b e h = join_same (bit_at a.y n) (bit_at b.y n) (bit_at a.x n ∷ bits_below n a) (bit_at b.x n ∷ bits_below n b) e h

here_first : (n : ℕ) (a b : Spot) → FirstAt n a b → Lt (bits_below (suc n) a) (bits_below (suc n) b)
here_first n a b (inl less) = offset_less n a b less
here_first n a b (inr (eo, inl less)) =
    offset_same n a b eo (join_less (bit_at a.y n) (bit_at b.y n) (bit_at a.x n ∷ bits_below n a) (bit_at b.x n ∷ bits_below n b) less)
here_first n a b (inr (eo, inr (ey, less))) =
    offset_same n a b eo (y_same n a b ey (join_less (bit_at a.x n) (bit_at b.x n) (bits_below n a) (bits_below n b) less))

pub first_below : (n : ℕ) (a b : Spot) (level : ℕ) → level < n → SameAbove level a b → FirstAt level a b → Lt (bits_below n a) (bits_below n b)
first_below zero a b level below same first = absurd (omega arith)
first_below (suc n) a b level below same first = at (nat_lt level n) refl (first_below n a b level)
  where
    at : (c : Bool) → nat_lt level n ≡ c → (level < n → SameAbove level a b → FirstAt level a b → Lt (bits_below n a) (bits_below n b)) → Lt (bits_below (suc n) a) (bits_below (suc n) b)
    at true e ih =
        let less : level < n = grind (arith, e) in
        offset_same n a b (same.same_offset n less) (y_same n a b (same.same_y n less)
        (join_same (bit_at a.x n) (bit_at b.x n) (bits_below n a) (bits_below n b) (same.same_x n less) (ih less same first)))
    at false e ih = let here : level ≡ n = grind (arith, e) in here_first n a b (subst (λ k. FirstAt k a b) here first)

-- ---- the law

no_higher : (f g level : ℕ) → f < 2 ^ 21 → g < 2 ^ 21 → ((i : ℕ) → level < i → i < 21 → bit_at f i ≡ bit_at g i) → (i : ℕ) → level < i → bit_at f i ≡ bit_at g i
no_higher f g level f_below g_below same i above = at (nat_lt i 21) refl
  where
    at : (c : Bool) → nat_lt i 21 ≡ c → bit_at f i ≡ bit_at g i
    at true e = same i above (grind (arith, e))
    at false e =
        let high : 21 ≤ i = grind (arith, e) in
        bit_at_above f 21 i f_below high ∙ sym (bit_at_above g 21 i g_below high)

-- at this level or above, a place of the cube has no bits
pub record IsInCube (a : Spot) : Type 0 where
  pub x_in_range : a.x < 2 ^ 21
  pub y_in_range : a.y < 2 ^ 21
  pub offset_in_range : a.offset < 2 ^ 21

pub by_highest_level : (a b : Spot) → IsInCube a → IsInCube b → Lt (bits_below 21 a) (bits_below 21 b) → (level : ℕ) × SameAbove level a b × FirstAt level a b
by_highest_level a b ra rb h =
    let d = decided 21 a b h in (
      d.level,
      record {
        same_x = no_higher a.x b.x d.level ra.x_in_range rb.x_in_range d.same.x;
        same_y = no_higher a.y b.y d.level ra.y_in_range rb.y_in_range d.same.y;
        same_offset = no_higher a.offset b.offset d.level ra.offset_in_range rb.offset_in_range d.same.offset;
      },
      d.first,
    )

-- nothing comes first at a level where there are no bits
none_high : (a b : Spot) → IsInCube a → IsInCube b → (level : ℕ) → FirstAt level a b → level < 21
none_high a b ra rb level first = at (nat_lt level 21) refl
  where
    at : (c : Bool) → nat_lt level 21 ≡ c → level < 21
    at true e = grind (arith, e)
    at false e =
        let high : 21 ≤ level = grind (arith, e) in
        absurd (no_first first (bit_at_above b.offset 21 level rb.offset_in_range high) (bit_at_above b.y 21 level rb.y_in_range high) (bit_at_above b.x 21 level rb.x_in_range high))
      where
        no_first : FirstAt level a b → bit_at b.offset level ≡ 0 → bit_at b.y level ≡ 0 → bit_at b.x level ≡ 0 → ⊥
        no_first (inl less) eo ey ex = omega (arith, less, eo)
        no_first (inr (e, inl less)) eo ey ex = omega (arith, less, ey)
        no_first (inr (e, inr (e', less))) eo ey ex = omega (arith, less, ex)

pub by_digits : (a b : Spot) → IsInCube a → IsInCube b → (level : ℕ) → SameAbove level a b → FirstAt level a b → Lt (bits_below 21 a) (bits_below 21 b)
by_digits a b ra rb level same first = first_below 21 a b level (none_high a b ra rb level first) same first

offset_in_cube : (period : Period) (t : ℕ) → t % seconds_of period < 2 ^ 21
offset_in_cube Day t = omega arith
offset_in_cube Week t = omega arith

in_cube : (period : Period) (p : Point) → IsInCube (spot_of period p)
in_cube period p = record { x_in_range = p.x_in_range; y_in_range = p.y_in_range; offset_in_range = offset_in_cube period p.t }

pub digits_by_level : (period : Period) (p q : Point) → Lt (digits_of period p) (digits_of period q) ↔ ComesBefore period p q
digits_by_level period p q = (there, back)
  where
    there : Lt (digits_of period p) (digits_of period q) → ComesBefore period p q
    there h = by_bin (split (p.t / seconds_of period) (q.t / seconds_of period) (bits_below 21 (spot_of period p)) (bits_below 21 (spot_of period q)) h)
      where
        by_bin : (p.t / seconds_of period < q.t / seconds_of period)
            ⊎ ((p.t / seconds_of period ≡ q.t / seconds_of period) × Lt (bits_below 21 (spot_of period p)) (bits_below 21 (spot_of period q)))
            → ComesBefore period p q
        by_bin (inl less) = inl less
        by_bin (inr r) = inr (r.0, by_highest_level (spot_of period p) (spot_of period q) (in_cube period p) (in_cube period q) r.1)

    back : ComesBefore period p q → Lt (digits_of period p) (digits_of period q)
    back (inl less) = join_less (p.t / seconds_of period) (q.t / seconds_of period) (bits_below 21 (spot_of period p)) (bits_below 21 (spot_of period q)) less
    back (inr (e, (level, same, first))) =
        join_same (p.t / seconds_of period) (q.t / seconds_of period) (bits_below 21 (spot_of period p)) (bits_below 21 (spot_of period q)) e
        (by_digits (spot_of period p) (spot_of period q) (in_cube period p) (in_cube period q) level same first)
