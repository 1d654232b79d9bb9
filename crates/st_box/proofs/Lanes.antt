-- Parts of a place whose bits stand three places apart.
use Rattle.std.proofs.Common.{◌≡◌, ℕ, ◌/◌, ◌^◌, ◌<◌, ◌≤◌, ◌↔◌, min, max, inl, inr, sym, ap, ◌∙◌, subst, arith}
use Rattle.std.proofs.lemmas.Bool.{cases_lt}
use Rattle.std.specs.Prelude.{bit_and}
use Rattle.std.proofs.Math.Nat.{pow-suc}
use Rattle.std.proofs.Common.{zero, suc}
use Rattle.st_key.proofs.Blocks.{and_lane}
use Rattle.st_key.specs.Morton.{spread, gather}
use Rattle.st_key.specs.Order.{Spot}
use Rattle.st_key.proofs.MortonLemmas.{spread-mono, gather-lt}
use Rattle.st_box.specs.Corner.{IsWithin}
use Rattle.st_box.specs.declared.corner.Corner.TheInside.{Inside}

abbrev pub spot : ℕ → ℕ → ℕ → Spot
spot x y offset = record { x = x; y = y; offset = offset }

-- the fields c of a corner that stands for the place s
pub record Holds (c : Inside) (s : Spot) : Type 0 where
  pub x_is : c.x ≡ spread 21 s.x
  pub y_is : c.y ≡ spread 21 s.y
  pub offset_is : c.offset ≡ spread 21 s.offset
  pub x_fits : s.x < 2 ^ 21
  pub y_fits : s.y < 2 ^ 21
  pub offset_fits : s.offset < 2 ^ 21

part_holds : (c n : ℕ) → c ≡ spread 21 (gather 21 c) → gather 21 c ≡ n → (c ≡ spread 21 n) × (n < 2 ^ 21)
part_holds c n lane view = (lane ∙ ap (spread 21) view, subst (λ m. m < 2 ^ 21) view (gather-lt 21 c))

pub holds : (c : Inside) (s : Spot)
    → (c.x ≡ spread 21 (gather 21 c.x)) × (c.y ≡ spread 21 (gather 21 c.y)) × (c.offset ≡ spread 21 (gather 21 c.offset))
    → gather 21 c.x ≡ s.x → gather 21 c.y ≡ s.y → gather 21 c.offset ≡ s.offset → Holds c s
holds c s lanes vx vy vo =
    let px = part_holds c.x s.x lanes.0 vx in
    let py = part_holds c.y s.y lanes.1 vy in
    let po = part_holds c.offset s.offset lanes.2 vo in
    record { x_is = px.0; y_is = py.0; offset_is = po.0; x_fits = px.1; y_fits = py.1; offset_fits = po.1 }

pub spread_le : (n x y : ℕ) → x ≤ y → y < 2 ^ n → spread n x ≤ spread n y
spread_le n x y le fits =
    elim (cases_lt x y) [
      | inl l ↦ let m = spread-mono n x y l fits in omega arith
      | inr g ↦ let e : x ≡ y = omega arith in omega (arith, ap (spread n) e)
    ]

pub le_spread : (n x y : ℕ) → spread n x ≤ spread n y → x < 2 ^ n → x ≤ y
le_spread n x y le fits =
    elim (cases_lt y x) [ inl l ↦ let m = spread-mono n y x l fits in absurd (omega arith) | inr g ↦ omega arith ]

pub spread-max : (n x y : ℕ) → x < 2 ^ n → y < 2 ^ n → max (spread n x) (spread n y) ≡ spread n (max x y)
spread-max n x y fx fy =
    elim (cases_lt x y) [
      | inl l ↦ let m = spread-mono n x y l fy in let e : max x y ≡ y = omega arith in omega (arith, ap (spread n) e)
      | inr g ↦ let m = spread_le n y x g fx in let e : max x y ≡ x = omega arith in omega (arith, ap (spread n) e)
    ]

pub spread-min : (n x y : ℕ) → x < 2 ^ n → y < 2 ^ n → min (spread n x) (spread n y) ≡ spread n (min x y)
spread-min n x y fx fy =
    elim (cases_lt x y) [
      | inl l ↦ let m = spread-mono n x y l fy in let e : min x y ≡ x = omega arith in omega (arith, ap (spread n) e)
      | inr g ↦ let m = spread_le n y x g fx in let e : min x y ≡ y = omega arith in omega (arith, ap (spread n) e)
    ]

pub within : (a b : Inside) (s t : Spot) → Holds a s → Holds b t → (a.x ≤ b.x) × (a.y ≤ b.y) × (a.offset ≤ b.offset) ↔ IsWithin s t
within a b s t ha hb = (
  λ le. record {
    x_within = le_spread 21 s.x t.x (omega arith) ha.x_fits;
    y_within = le_spread 21 s.y t.y (omega arith) ha.y_fits;
    offset_within = le_spread 21 s.offset t.offset (omega arith) ha.offset_fits;
  },
  λ w. (
    omega (arith, spread_le 21 s.x t.x w.x_within hb.x_fits),
    omega (arith, spread_le 21 s.y t.y w.y_within hb.y_fits),
    omega (arith, spread_le 21 s.offset t.offset w.offset_within hb.offset_fits),
  ),
)

pub gather-spread : (n x : ℕ) → x < 2 ^ n → gather n (spread n x) ≡ x
unfolding gather spread
gather-spread zero x fits = omega arith
gather-spread (suc n) x fits =
    let rest : spread (suc n) x / 8 ≡ spread n (x / 2) = omega arith in
    let ih = ap (gather n) rest ∙ gather-spread n (x / 2) (omega (arith, pow-suc 2 n)) in
    omega arith

pub gather-lane : (a : ℕ) → gather 21 (bit_and a 0x1249_2492_4924_9249) ≡ gather 21 a
gather-lane a = ap (gather 21) (and_lane a) ∙ gather-spread 21 (gather 21 a) (gather-lt 21 a)

pub lane_is : (a : ℕ) → bit_and a 0x1249_2492_4924_9249 ≡ spread 21 (gather 21 (bit_and a 0x1249_2492_4924_9249))
lane_is a = and_lane a ∙ ap (spread 21) (sym (gather-lane a))

pub spread_is : (c n : ℕ) → n < 2 ^ 21 → c ≡ spread 21 n → gather 21 c ≡ n
spread_is c n fits e = ap (gather 21) e ∙ gather-spread 21 n fits

-- a part that is moved apart is so when its bits are moved back
pub apart : (c n : ℕ) → n < 2 ^ 21 → c ≡ spread 21 n → c ≡ spread 21 (gather 21 c)
apart c n fits e = e ∙ ap (spread 21) (sym (spread_is c n fits e))

pub same_spot : (x y o a b d : ℕ) → x ≡ a → y ≡ b → o ≡ d → spot x y o ≡ spot a b d
same_spot x y o a b d ex ey eo = ap (λ v. spot v y o) ex ∙ ap (λ v. spot a v o) ey ∙ ap (λ v. spot a b v) eo
