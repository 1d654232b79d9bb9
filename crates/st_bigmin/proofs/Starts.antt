-- The level from which a jump begins.
use Rattle.std.proofs.Common.{◌≡◌, ℕ, ◌+◌, ◌-◌, ◌*◌, ◌/◌, ◌^◌, ◌<◌, inl, inr, refl, ap, sym, ◌∙◌, arith}
use Rattle.std.specs.Int.Bits.{bit_xor, xor_self}
use Rattle.std.specs.Int.Count.{count_leading_zeros, leading_of_zero}
use Rattle.std.proofs.lemmas.Bool.{cases_lt}
use Rattle.std.proofs.lemmas.Nat.{xor_shr, xor_lt, le-div, leading_top, pow_pos}
use Rattle.st_key.specs.Order.{Spot}
use Rattle.st_box.specs.Corner.{IsWithin, spot_at}
use Rattle.st_box.specs.inner.Corners.{address_at, later_of, earlier_of}
use Rattle.st_box.proofs.Cells.{after_first, before_last, in_cell, spot_in_cube, spot-address, within-cube}
use Rattle.st_bigmin.specs.inner.Cells.{IsBetween}
use Rattle.st_bigmin.proofs.Ends.{cell_room}
use Rattle.st_bigmin.proofs.Runs.{below_prefix}

-- ---- where two numbers differ

-- the prefixes at the highest bit where m and n differ are not the same
pub highest_apart : (m n : ℕ) → m < 2 ^ 64 → n < 2 ^ 64 → m / 2 ^ (63 - count_leading_zeros 64 (bit_xor m n)) ≡ n / 2 ^ (63 - count_leading_zeros 64 (bit_xor m n))
    → 63 - count_leading_zeros 64 (bit_xor m n) ≡ 0
highest_apart m n m_fits n_fits same =
    let x = bit_xor m n in
    elim (cases_lt 0 x) [
      | inl some ↦
          let top = leading_top 64 x some (xor_lt 64 m n m_fits n_fits) in
          let at : 63 - count_leading_zeros 64 x ≡ top.0 = omega (arith, top.1) in
          let prefixes : m / 2 ^ top.0 ≡ n / 2 ^ top.0 = ap (λ k. m / 2 ^ k) (sym at) ∙ same ∙ ap (λ k. n / 2 ^ k) at in
          let none : x / 2 ^ top.0 ≡ 0 = xor_shr m n top.0 ∙ ap (λ q. bit_xor q (n / 2 ^ top.0)) prefixes ∙ xor_self (n / 2 ^ top.0) in
          absurd (omega (arith, le-div 1 x (2 ^ top.0) (pow_pos top.0) (omega (arith, top.2))))
      | inr none ↦
          let zero : x ≡ 0 = omega arith in
          omega (arith, ap (count_leading_zeros 64) zero, leading_of_zero 64)
    ]

-- ---- the place between two that is nearest to one

-- it is in each cell of that one which has a place between them
near_cell : (s t : Spot) (z a k : ℕ) → z < 2 ^ 63 → k < 64 → IsBetween s t a → a / 2 ^ k ≡ z / 2 ^ k
    → address_at (later_of s (earlier_of t (spot_at z))) / 2 ^ k ≡ z / 2 ^ k
near_cell s t z a k fits level there same =
    let p = z / 2 ^ k in
    let near = later_of s (earlier_of t (spot_at z)) in
    let from_z = after_first k p z refl in
    let to_z = before_last k p z refl in
    let from_a = after_first k p a same in
    let to_a = before_last k p a same in
    let from_s = there.from_first in
    let to_t = there.to_last in
    let starts : IsWithin (spot_at (p * 2 ^ k)) near = record { x_within = omega arith; y_within = omega arith; offset_within = omega arith } in
    let ends : IsWithin near (spot_at (p * 2 ^ k + (2 ^ k - 1))) = record { x_within = omega arith; y_within = omega arith; offset_within = omega arith } in
    in_cell k p near (cell_room k p z level fits refl (omega arith)) starts ends

-- what the code makes of the corners is that place's address
pub nearest_at : (s t u v : Spot) (z m n : ℕ) → u ≡ spot_at z → m ≡ address_at (earlier_of t u) → v ≡ spot_at m → n ≡ address_at (later_of s v)
    → n ≡ address_at (later_of s (earlier_of t (spot_at z)))
nearest_at s t u v z m n u_is m_is v_is n_is =
    let low = earlier_of t (spot_at z) in
    let m_at : m ≡ address_at low = m_is ∙ ap (λ w. address_at (earlier_of t w)) u_is in
    let to_z : IsWithin low (spot_at z) = record { x_within = omega arith; y_within = omega arith; offset_within = omega arith } in
    let v_at : v ≡ low = v_is ∙ ap spot_at m_at ∙ spot-address low (within-cube low (spot_at z) to_z (spot_in_cube z)) in
    n_is ∙ ap (λ w. address_at (later_of s w)) v_at

-- so a jump begins at the highest bit where that address and z differ
pub start_level : (s t : Spot) (z n k : ℕ) → z < 2 ^ 63 → n < 2 ^ 64 → n ≡ address_at (later_of s (earlier_of t (spot_at z)))
    → k ≡ 63 - count_leading_zeros 64 (bit_xor z n) → (a : ℕ) → IsBetween s t a → z < a → z / 2 ^ k < a / 2 ^ k
start_level s t z n k fits wide n_is k_is a there above =
    let up = below_prefix k z a (omega arith) in
    elim (cases_lt (z / 2 ^ k) (a / 2 ^ k)) [
      | inl apart ↦ apart
      | inr not_apart ↦
          let same : a / 2 ^ k ≡ z / 2 ^ k = omega arith in
          let near : z / 2 ^ k ≡ n / 2 ^ k = sym (ap (λ m. m / 2 ^ k) n_is ∙ near_cell s t z a k fits (omega arith) there same) in
          let low : k ≡ 0 = k_is ∙ highest_apart z n (omega arith) wide (ap (λ j. z / 2 ^ j) (sym k_is) ∙ near ∙ ap (λ j. n / 2 ^ j) k_is) in
          let at_zero : a / 2 ^ 0 ≡ z / 2 ^ 0 = ap (λ j. a / 2 ^ j) (sym low) ∙ same ∙ ap (λ j. z / 2 ^ j) low in
          absurd (omega arith)
    ]
