-- The addresses with one prefix are the places between the first of them and the last.
use Rattle.std.proofs.Common.{◌≡◌, ℕ, zero, suc, ◌+◌, ◌-◌, ◌*◌, ◌/◌, ◌%◌, ◌^◌, ◌<◌, ◌≤◌, inl, inr, sym, ap, ◌∙◌, subst, arith}
use Rattle.std.specs.Int.{bit_at}
use Rattle.std.proofs.Math.Nat.{div-mul-le_self}
use Rattle.std.proofs.lemmas.Bool.{cases_lt}
use Rattle.std.proofs.lemmas.Nat.{shr-shr, shr_split, shr_high, shl-shr, le-div, pow_pos, mod_below}
use Rattle.std.proofs.lemmas.Nat.Bits.{bit_at_lowest, bit_at-zero, bit_at-lt, bit_at_cat_low, bit_at_cat_high, bit_at_ones}
use Rattle.st_key.specs.Morton.{gather}
use Rattle.st_key.specs.Order.{Spot}
use Rattle.st_key.proofs.MortonLemmas.{joined-gather, gather-lt, joined-lt, gather_x, gather_y, gather_z}
use Rattle.st_box.specs.Corner.{IsWithin, spot_at}
use Rattle.st_box.specs.inner.Corners.{address_at}
use Rattle.st_box.proofs.Lanes.{spread_le}

-- each bit of a is at most that of b
pub record Dominated (a b : ℕ) : Type 0 where
  pub bits : (i : ℕ) → bit_at a i ≤ bit_at b i

dominated-shr : (j a b : ℕ) → Dominated a b → Dominated (a / 2 ^ j) (b / 2 ^ j)
dominated-shr j a b d = record { bits = λ i. omega (arith, d.bits (j + i), ap (λ n. n % 2) (shr-shr a j i), ap (λ n. n % 2) (shr-shr b j i)) }

gather-dominated : (n a b : ℕ) → Dominated a b → gather n a ≤ gather n b
unfolding gather
gather-dominated zero a b d = omega arith
gather-dominated (suc n) a b d =
    omega (arith, d.bits 0, bit_at_lowest a, bit_at_lowest b, gather-dominated n (a / 8) (b / 8) (dominated-shr 3 a b d))

within_dominated : (a b : ℕ) → Dominated a b → IsWithin (spot_at a) (spot_at b)
within_dominated a b d = record {
  x_within = gather-dominated 21 a b d;
  y_within = gather-dominated 21 (a / 2) (b / 2) (dominated-shr 1 a b d);
  offset_within = gather-dominated 21 (a / 4) (b / 4) (dominated-shr 2 a b d);
}

upper_bit : (k p a i : ℕ) → a / 2 ^ k ≡ p → k ≤ i → bit_at a i ≡ bit_at p (i - k)
upper_bit k p a i prefix above =
    ap (λ n. bit_at n i) (sym (shr_split a k))
    ∙ bit_at_cat_high (a / 2 ^ k) k (a % 2 ^ k) i (mod_below a (2 ^ k) (pow_pos k)) above
    ∙ ap (λ q. bit_at q (i - k)) prefix

first_dominated : (k p a : ℕ) → a / 2 ^ k ≡ p → Dominated (p * 2 ^ k) a
first_dominated k p a prefix = record {
  bits = λ i. elim (cases_lt i k) [
    | inl low ↦ omega (arith, ap (λ n. bit_at n i) (plus_zero (p * 2 ^ k)), bit_at_cat_low p k 0 i low, bit_at-zero i)
    | inr high ↦ omega (arith, ap (λ n. bit_at n i) (plus_zero (p * 2 ^ k)), bit_at_cat_high p k 0 i (pow_pos k) high, upper_bit k p a i prefix high)
  ];
}
  where
    plus_zero : (n : ℕ) → n ≡ n + 0
    plus_zero n = omega arith

last_dominates : (k p a : ℕ) → a / 2 ^ k ≡ p → Dominated a (p * 2 ^ k + (2 ^ k - 1))
last_dominates k p a prefix = record {
  bits = λ i. elim (cases_lt i k) [
    | inl low ↦ omega (arith, bit_at_cat_low p k (2 ^ k - 1) i low, bit_at_ones k i low, bit_at-lt a i)
    | inr high ↦ let fits : 2 ^ k - 1 < 2 ^ k = omega (arith, pow_pos k) in
        omega (arith, bit_at_cat_high p k (2 ^ k - 1) i fits high, upper_bit k p a i prefix high)
  ];
}

pub after_first : (k p a : ℕ) → a / 2 ^ k ≡ p → IsWithin (spot_at (p * 2 ^ k)) (spot_at a)
after_first k p a prefix = within_dominated (p * 2 ^ k) a (first_dominated k p a prefix)

pub before_last : (k p a : ℕ) → a / 2 ^ k ≡ p → IsWithin (spot_at a) (spot_at (p * 2 ^ k + (2 ^ k - 1)))
before_last k p a prefix = within_dominated a (p * 2 ^ k + (2 ^ k - 1)) (last_dominates k p a prefix)

-- ---- addresses rise with each part

pub record InCube (s : Spot) : Type 0 where
  pub x_fits : s.x < 2 ^ 21
  pub y_fits : s.y < 2 ^ 21
  pub offset_fits : s.offset < 2 ^ 21

pub spot_in_cube : (a : ℕ) → InCube (spot_at a)
spot_in_cube a = record { x_fits = gather-lt 21 a; y_fits = gather-lt 21 (a / 2); offset_fits = gather-lt 21 (a / 4) }

pub address-mono : (s t : Spot) → IsWithin s t → InCube t → address_at s ≤ address_at t
address-mono s t w fits =
    omega (
      arith,
      spread_le 21 s.x t.x w.x_within fits.x_fits,
      spread_le 21 s.y t.y w.y_within fits.y_fits,
      spread_le 21 s.offset t.offset w.offset_within fits.offset_fits,
    )

pub address-spot : (a : ℕ) → a < 2 ^ 63 → address_at (spot_at a) ≡ a
address-spot a fits = joined-gather 21 a fits

pub within-cube : (s t : Spot) → IsWithin s t → InCube t → InCube s
within-cube s t w fits = record { x_fits = omega arith; y_fits = omega arith; offset_fits = omega arith }

-- a place between the first and the last of a cell has the cell's prefix
pub in_cell : (k p : ℕ) (s : Spot) → (p + 1) * 2 ^ k ≤ 2 ^ 63
    → IsWithin (spot_at (p * 2 ^ k)) s → IsWithin s (spot_at (p * 2 ^ k + (2 ^ k - 1))) → address_at s / 2 ^ k ≡ p
in_cell k p s room from_first to_last =
    let some = pow_pos k in
    let last_fits : p * 2 ^ k + (2 ^ k - 1) < 2 ^ 63 = omega arith in
    let first_fits : p * 2 ^ k < 2 ^ 63 = omega arith in
    let cube = within-cube s _ to_last (spot_in_cube (p * 2 ^ k + (2 ^ k - 1))) in
    let low = address-mono (spot_at (p * 2 ^ k)) s from_first cube in
    let high = address-mono s (spot_at (p * 2 ^ k + (2 ^ k - 1))) to_last (spot_in_cube (p * 2 ^ k + (2 ^ k - 1))) in
    let above : p * 2 ^ k ≤ address_at s = subst (λ n. n ≤ address_at s) (address-spot (p * 2 ^ k) first_fits) low in
    let below : address_at s ≤ p * 2 ^ k + (2 ^ k - 1) = subst (λ n. address_at s ≤ n) (address-spot (p * 2 ^ k + (2 ^ k - 1)) last_fits) high in
    let split : address_at s ≡ p * 2 ^ k + (address_at s - p * 2 ^ k) = omega arith in
    ap (λ n. n / 2 ^ k) split ∙ shr_high p k (address_at s - p * 2 ^ k) (omega arith)

abbrev spot : ℕ → ℕ → ℕ → Spot
spot x y offset = record { x = x; y = y; offset = offset }

pub spot-address : (s : Spot) → InCube s → spot_at (address_at s) ≡ s
spot-address s fits =
    ap (λ v. spot v (gather 21 (address_at s / 2)) (gather 21 (address_at s / 4))) (gather_x 21 s.x s.y s.offset fits.x_fits)
    ∙ ap (λ v. spot s.x v (gather 21 (address_at s / 4))) (gather_y 21 s.x s.y s.offset fits.y_fits)
    ∙ ap (λ v. spot s.x s.y v) (gather_z 21 s.x s.y s.offset fits.offset_fits)

pub address-lt : (s : Spot) → InCube s → address_at s < 2 ^ 63
address-lt s fits = joined-lt 21 s.x s.y s.offset

-- numbers by their prefixes
pub above_prefix : (k m n : ℕ) → m / 2 ^ k < n / 2 ^ k → m < n
above_prefix k m n below =
    elim (cases_lt m n) [ inl l ↦ l | inr g ↦ let h = le-div (n / 2 ^ k) m (2 ^ k) (pow_pos k) (omega (arith, div-mul-le_self n (2 ^ k))) in absurd (omega arith) ]

pub last_prefix : (k p : ℕ) → (p * 2 ^ k + (2 ^ k - 1)) / 2 ^ k ≡ p
last_prefix k p = shr_high p k (2 ^ k - 1) (omega (arith, pow_pos k))

pub first_prefix : (k p : ℕ) → p * 2 ^ k / 2 ^ k ≡ p
first_prefix k p = shl-shr p k
