-- Addresses of a coarse box are those of the box without their lowest bits.
use Rattle.std.proofs.Common.{◌≡◌, ℕ, zero, suc, ◌+◌, ◌*◌, ◌/◌, ◌^◌, ◌<◌, ◌≤◌, max, inl, inr, sym, ap, ◌∙◌, subst, arith}
use Rattle.std.proofs.lemmas.Bool.{cases_lt}
use Rattle.std.proofs.Math.Nat.{pow-suc, div-mul-le_self, div-le_self}
use Rattle.std.proofs.lemmas.Nat.{shr-shr, le-div, pow_pos, mul-le}
use Rattle.st_key.specs.Morton.{gather, x_of, y_of, offset_of}
use Rattle.st_key.specs.Order.{Spot}
use Rattle.st_box.specs.declared.zbox.ZBox.{ZBox}
use Rattle.st_box.specs.Corner.{IsWithin, spot_at}
use Rattle.st_box.specs.inner.Corners.{address_at}
use Rattle.st_box.specs.ZBox.{first_of, last_of}
use Rattle.st_box.proofs.Cells.{InCube, spot-address, address-spot, address-lt, first_prefix}
use Rattle.st_box.proofs.Lanes.{same_spot}
use Rattle.st_bigmin.proofs.Runs.{below_prefix}
use Rattle.st_plan.specs.Coarse.{coarse_spot, InCoarse}

gather_more : (n b : ℕ) → b < 8 ^ n → gather (suc n) b ≡ gather n b
unfolding gather
gather_more zero b fits = omega arith
gather_more (suc n) b fits = omega (arith, gather_more n (b / 8) (omega (arith, pow-suc 8 n)))

gather_half : (n a : ℕ) → a < 8 ^ suc n → gather (suc n) (a / 8) ≡ gather (suc n) a / 2
unfolding gather
gather_half n a fits = omega (arith, gather_more n (a / 8) (omega (arith, pow-suc 8 n)))

next_triple : (j a : ℕ) → a / 2 ^ (3 * suc j) ≡ a / 2 ^ (3 * j) / 8
next_triple j a = let e : 3 * suc j ≡ 3 * j + 3 = omega arith in ap (λ n. a / 2 ^ n) e ∙ sym (shr-shr a (3 * j) 3)

next_half : (j n : ℕ) → n / 2 ^ j / 2 ≡ n / 2 ^ suc j
next_half j n = let e : j + 1 ≡ suc j = omega arith in shr-shr n j 1 ∙ ap (λ m. n / 2 ^ m) e

gather_shift : (j a : ℕ) → a < 2 ^ 63 → gather 21 (a / 2 ^ (3 * j)) ≡ gather 21 a / 2 ^ j
gather_shift zero a fits =
    let e : a / 2 ^ (3 * 0) ≡ a = omega arith in
    let f : gather 21 a ≡ gather 21 a / 2 ^ 0 = omega arith in
    ap (gather 21) e ∙ f
gather_shift (suc j) a fits =
    ap (gather 21) (next_triple j a)
    ∙ gather_half 20 (a / 2 ^ (3 * j)) (omega (arith, div-le_self a (2 ^ (3 * j))))
    ∙ ap (λ n. n / 2) (gather_shift j a fits)
    ∙ next_half j (gather 21 a)

swap : (i k a : ℕ) → a / 2 ^ k / 2 ^ i ≡ a / 2 ^ i / 2 ^ k
swap i k a = let e : k + i ≡ i + k = omega arith in shr-shr a k i ∙ ap (λ n. a / 2 ^ n) e ∙ sym (shr-shr a i k)

pub spot_shift : (j a : ℕ) → a < 2 ^ 63 → spot_at (a / 2 ^ (3 * j)) ≡ coarse_spot j (spot_at a)
spot_shift j a fits =
    same_spot _ _ _ _ _ _ (gather_shift j a fits)
    (ap (gather 21) (swap 1 (3 * j) a) ∙ gather_shift j (a / 2) (omega arith))
    (ap (gather 21) (swap 2 (3 * j) a) ∙ gather_shift j (a / 4) (omega arith))

-- ---- up: an address without its lowest bits is in the coarser box

part_up : (m j u x : ℕ) → u / 2 ^ m ≤ x → u / 2 ^ (m + j) ≤ x / 2 ^ j
part_up m j u x le = omega (arith, shr-shr u m j, below_prefix j (u / 2 ^ m) x le)

part_up_to : (m j u x : ℕ) → x ≤ u / 2 ^ m → x / 2 ^ j ≤ u / 2 ^ (m + j)
part_up_to m j u x le = omega (arith, shr-shr u m j, below_prefix j x (u / 2 ^ m) le)

pub up : (b : ZBox) (m j a : ℕ) → InCoarse b m a → InCoarse b (m + j) (a / 2 ^ (3 * j))
up b m j a w =
    let same = spot_shift j a w.is_address in
    let low : IsWithin (coarse_spot (m + j) (first_of b)) (coarse_spot j (spot_at a)) = record {
      x_within = part_up m j b.x_first (x_of a) w.from_first.x_within;
      y_within = part_up m j b.y_first (y_of a) w.from_first.y_within;
      offset_within = part_up m j b.offset_first (offset_of a) w.from_first.offset_within;
    } in
    let high : IsWithin (coarse_spot j (spot_at a)) (coarse_spot (m + j) (last_of b)) = record {
      x_within = part_up_to m j b.x_last (x_of a) w.to_last.x_within;
      y_within = part_up_to m j b.y_last (y_of a) w.to_last.y_within;
      offset_within = part_up_to m j b.offset_last (offset_of a) w.to_last.offset_within;
    } in
    record {
      is_address = omega (arith, div-le_self a (2 ^ (3 * j)), w.is_address);
      from_first = subst (λ s. IsWithin (coarse_spot (m + j) (first_of b)) s) (sym same) low;
      to_last = subst (λ s. IsWithin s (coarse_spot (m + j) (last_of b))) (sym same) high;
    }

-- ---- down: each address of the coarser box comes from one of the finer

record Part (u v x j p : ℕ) : Type 0 where
  pub above : u ≤ p
  pub below : p ≤ v
  pub prefix : p / 2 ^ j ≡ x

part_down : (u v j x : ℕ) → u ≤ v → u / 2 ^ j ≤ x → x ≤ v / 2 ^ j → Part u v x j (max u (x * 2 ^ j))
part_down u v j x order low high =
    let top : x * 2 ^ j ≤ v = omega (arith, mul-le x (2 ^ j) (v / 2 ^ j) (2 ^ j) high (omega arith), div-mul-le_self v (2 ^ j)) in
    elim (cases_lt (x * 2 ^ j) u) [
      | inl l ↦
          let e : u ≡ max u (x * 2 ^ j) = omega arith in
          subst (λ p. Part u v x j p) e (record { above = omega arith; below = order; prefix = omega (arith, le-div x u (2 ^ j) (pow_pos j) (omega arith)) })
      | inr g ↦
          let e : x * 2 ^ j ≡ max u (x * 2 ^ j) = omega arith in
          subst (λ p. Part u v x j p) e (record { above = g; below = top; prefix = first_prefix j x })
    ]

part_of : (m j u v x : ℕ) → u ≤ v → u / 2 ^ (m + j) ≤ x → x ≤ v / 2 ^ (m + j) → Part (u / 2 ^ m) (v / 2 ^ m) x j (max (u / 2 ^ m) (x * 2 ^ j))
part_of m j u v x order low high =
    part_down (u / 2 ^ m) (v / 2 ^ m) j x (below_prefix m u v order) (omega (arith, shr-shr u m j)) (omega (arith, shr-shr v m j))

pub record Child (b : ZBox) (m j c : ℕ) : Type 0 where
  pub address : ℕ
  pub inside : InCoarse b m address
  pub prefix : address / 2 ^ (3 * j) ≡ c

pub down : (b : ZBox) (m j c : ℕ) → InCoarse b (m + j) c → Child b m j c
down b m j c w =
    let px = part_of m j b.x_first b.x_last (x_of c) b.x_ordered w.from_first.x_within w.to_last.x_within in
    let py = part_of m j b.y_first b.y_last (y_of c) b.y_ordered w.from_first.y_within w.to_last.y_within in
    let po = part_of m j b.offset_first b.offset_last (offset_of c) b.offset_ordered w.from_first.offset_within w.to_last.offset_within in
    let s : Spot = record {
      x = max (b.x_first / 2 ^ m) (x_of c * 2 ^ j);
      y = max (b.y_first / 2 ^ m) (y_of c * 2 ^ j);
      offset = max (b.offset_first / 2 ^ m) (offset_of c * 2 ^ j);
    } in
    let cube : InCube s = record {
      x_fits = omega (arith, px.below, div-le_self b.x_last (2 ^ m), b.x_in_range);
      y_fits = omega (arith, py.below, div-le_self b.y_last (2 ^ m), b.y_in_range);
      offset_fits = omega (arith, po.below, div-le_self b.offset_last (2 ^ m), b.offset_in_range);
    } in
    let a = address_at s in
    let there = spot-address s cube in
    let fits = address-lt s cube in
    let low : IsWithin (coarse_spot m (first_of b)) s = record { x_within = px.above; y_within = py.above; offset_within = po.above } in
    let high : IsWithin s (coarse_spot m (last_of b)) = record { x_within = px.below; y_within = py.below; offset_within = po.below } in
    let same : spot_at (a / 2 ^ (3 * j)) ≡ spot_at c =
    spot_shift j a fits ∙ ap (coarse_spot j) there ∙ same_spot _ _ _ _ _ _ px.prefix py.prefix po.prefix in
    record {
      address = a;
      inside = record {
        is_address = fits;
        from_first = subst (λ t. IsWithin (coarse_spot m (first_of b)) t) (sym there) low;
        to_last = subst (λ t. IsWithin t (coarse_spot m (last_of b))) (sym there) high;
      };
      prefix = sym (address-spot (a / 2 ^ (3 * j)) (omega (arith, div-le_self a (2 ^ (3 * j))))) ∙ ap address_at same ∙ address-spot c w.is_address;
    }
