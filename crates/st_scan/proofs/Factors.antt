-- Shares of numbers, found by a factor in place of a division.
use Rattle.std.proofs.Common.{◌≡◌, ℕ, ◌+◌, ◌*◌, ◌/◌, ◌%◌, ◌^◌, ◌<◌, ◌≤◌, ap, ◌∙◌, arith}
use Rattle.std.proofs.Math.Nat.{le_of_mul-le-mul_right, lt_of_mul-lt-mul_right, mod-lt}
use Rattle.std.proofs.Math.Nat.{mul-le-mul_left, mul-le-mul_right, mul-lt-mul_of_pos_right}
use Rattle.std.proofs.lemmas.Nat.{div-add-mod', div_below, le-div, mul-le}

-- the width w has s shares of full parts each: f parts for each number, and p over, and n numbers make q shares, and r over;
-- with one part more for each, n numbers come to q shares
reaches : (n s w full f p q r : ℕ) → 0 < w → p ≤ w → f * w + p ≡ s * full → q * w + r ≡ n * s → q * full ≤ n * (f + 1)
reaches n s w full f p q r some over is share =
    let made : n * (f * w + p) ≡ n * (s * full) = ap (λ k. n * k) is in
    let shares : (q * w + r) * full ≡ n * s * full = ap (λ k. k * full) share in
    let most : n * p ≤ n * w = mul-le-mul_left n over in
    le_of_mul-le-mul_right {k = w} (omega (arith, made, shares, most)) some

-- and not to one share more
stays_below : (n s w full f p q r : ℕ) → n < w → w * w ≤ full → f * w + p ≡ s * full → r < w → q * w + r ≡ n * s
    → n * (f + 1) < (q + 1) * full
stays_below n s w full f p q r l wide is left share =
    let made : n * (f * w + p) ≡ n * (s * full) = ap (λ k. n * k) is in
    let shares : (q * w + r) * full ≡ n * s * full = ap (λ k. k * full) share in
    let rest : (r + 1) * full ≤ w * full = mul-le-mul_right full (omega (arith, left)) in
    let rounded : n * w < w * w = mul-lt-mul_of_pos_right l (omega (arith, l)) in
    lt_of_mul-lt-mul_right w (omega (arith, made, shares, rest, rounded, wide))

by_rounded : (n s w full : ℕ) → n < w → w * w ≤ full → n * (s * full / w + 1) / full ≡ n * s / w
by_rounded n s w full l wide =
    let some : 0 < w = omega (arith, l) in
    let square : w * 1 ≤ w * w = mul-le-mul_left w some in
    let is = div-add-mod' (s * full) w in
    let over = mod-lt (s * full) some in
    let share = div-add-mod' (n * s) w in
    let left = mod-lt (n * s) some in
    let low = reaches n s w full (s * full / w) (s * full % w) (n * s / w) (n * s % w) some (omega (arith, over)) is share in
    let high = stays_below n s w full (s * full / w) (s * full % w) (n * s / w) (n * s % w) l wide is left share in
    let most : 0 < full = omega (arith, some, square, wide) in
    let from : n * s / w ≤ n * (s * full / w + 1) / full = le-div (n * s / w) (n * (s * full / w + 1)) full most low in
    let to : n * (s * full / w + 1) / full < n * s / w + 1 = div_below (n * (s * full / w + 1)) full (n * s / w + 1) most high in
    omega (arith, from, to)

-- a number's share by the factor is its share by the division
pub by_factor : (n s w factor : ℕ) → n < w → w ≤ 2 ^ 21 → factor ≡ s * 2 ^ 42 / w + 1 → n * factor / 2 ^ 42 ≡ n * s / w
by_factor n s w factor l narrow is =
    let wide = mul-le w w (2 ^ 21) (2 ^ 21) narrow narrow in
    ap (λ f. n * f / 2 ^ 42) is ∙ by_rounded n s w (2 ^ 42) l wide
