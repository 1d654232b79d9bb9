-- One level of a jump: what the cell beside z at this level holds of the box.
use Rattle.std.proofs.Common.{◌≡◌, ℕ, Option, Some, None, IfSome, IfNone, suc, ◌+◌, ◌-◌, ◌*◌, ◌/◌, ◌%◌, ◌^◌, ◌<◌, ◌≤◌, min, inl, inr, sym, ap, ◌∙◌, subst, arith}
use Rattle.std.proofs.Math.Pow.{pow_mono}
use Rattle.std.proofs.lemmas.Bool.{cases_lt}
use Rattle.std.proofs.Math.Nat.{pow-suc, div-mul-le_self, div-eq_of_lt}
use Rattle.std.proofs.lemmas.Nat.{shr-shr, shr_below, pow-add, mul-le}
use Rattle.st_key.specs.Order.{Spot}
use Rattle.st_box.specs.declared.zbox.ZBox.{ZBox}
use Rattle.st_box.specs.Corner.{IsWithin, spot_at}
use Rattle.st_box.specs.inner.Corners.{address_at, later_of, earlier_of}
use Rattle.st_box.specs.ZBox.{IsInside, first_of, last_of}
use Rattle.st_bigmin.specs.inner.Jump.{IsLeastAbove, IsGreatestBelow}
use Rattle.st_bigmin.specs.inner.Cells.{IsBetween}
use Rattle.st_box.proofs.Cells.{after_first, before_last, in_cell, address-mono, address-spot, spot_in_cube, above_prefix, last_prefix, within-cube}
use Rattle.st_box.proofs.Boxes.{cell_first, cell_last, Meets, meets, box_in_cube, box_ordered, inside_at}
use Rattle.st_bigmin.proofs.Ends.{earlier_within, later_within}

pub no_prefix : (z k : ℕ) → z < 2 ^ k → z / 2 ^ k ≡ 0
no_prefix z k fits = div-eq_of_lt fits

-- ---- the least above

-- no address of the box above z has the prefix of z at this level
abbrev pub NoneNear : ZBox → ℕ → ℕ → Type 0
NoneNear b z k = (a : ℕ) → IsInside b a → z < a → z / 2 ^ k < a / 2 ^ k

pub half_prefix : (k n : ℕ) → n / 2 ^ (k + 1) ≡ n / 2 ^ k / 2
half_prefix k n = sym (shr-shr n k 1)

-- where the box is between two places, and none between these has the prefix, none of the box has
pub none_near-start : (b : ZBox) (z k : ℕ) (s t : Spot) → s ≡ first_of b → t ≡ last_of b
    → ((a : ℕ) → IsBetween s t a → z < a → z / 2 ^ k < a / 2 ^ k) → NoneNear b z k
none_near-start b z k s t s_is t_is none a inside = none a (record {
  from_first = subst (λ u. IsWithin u (spot_at a)) (sym s_is) inside.from_first;
  to_last = subst (λ u. IsWithin (spot_at a) u) (sym t_is) inside.to_last;
})

-- where the cell beside z is no address's, or misses the box, the next level has none near either
pub none_near-suc : (b : ZBox) (z k : ℕ) → NoneNear b z k → (z / 2 ^ k % 2 ≡ 0 → Meets b k (z / 2 ^ k + 1) → ⊥) → NoneNear b z (k + 1)
none_near-suc b z k none apart a inside above =
    let near = none a inside above in
    let za = half_prefix k z in
    let aa = half_prefix k a in
    elim (cases_lt (z / 2 ^ k / 2) (a / 2 ^ k / 2)) [
      | inl l ↦ omega arith
      | inr g ↦ absurd (apart (omega arith) (meets b k (z / 2 ^ k + 1) a inside (omega arith)))
    ]

pub least_above : (b : ZBox) (z k : ℕ) → NoneNear b z k → (z / 2 ^ k + 1 + 1) * 2 ^ k ≤ 2 ^ 63 → Meets b k (z / 2 ^ k + 1)
    → IsLeastAbove b z (address_at (later_of (first_of b) (spot_at (cell_first k (z / 2 ^ k + 1)))))
least_above b z k none room meet =
    let p = z / 2 ^ k + 1 in
    let low = spot_at (cell_first k p) in
    let s = later_of (first_of b) low in
    let order = box_ordered b in
    let cell_order = after_first k p (cell_last k p) (last_prefix k p) in
    let from_box : IsWithin (first_of b) s = record { x_within = omega arith; y_within = omega arith; offset_within = omega arith } in
    let from_cell : IsWithin low s = record { x_within = omega arith; y_within = omega arith; offset_within = omega arith } in
    let to_box : IsWithin s (last_of b) = later_within (first_of b) low (last_of b) order meet.starts in
    let to_cell : IsWithin s (spot_at (cell_last k p)) = later_within (first_of b) low (spot_at (cell_last k p)) meet.ends cell_order in
    let prefix = in_cell k p s room from_cell to_cell in
    record {
      above = above_prefix k z (address_at s) (omega arith);
      inside = inside_at b s from_box to_box;
      least = λ a inside above. elim (cases_lt p (a / 2 ^ k)) [
        | inl beyond ↦ omega (arith, above_prefix k (address_at s) a (omega arith))
        | inr at ↦
            let here : a / 2 ^ k ≡ p = omega (arith, none a inside above) in
            let w = later_within (first_of b) low (spot_at a) inside.from_first (after_first k p a here) in
            subst (λ n. address_at s ≤ n) (address-spot a inside.is_address) (address-mono s (spot_at a) w (spot_in_cube a))
      ];
    }

-- ---- the greatest below

-- no address of the box below z has the prefix of z at this level
abbrev pub NoneNearBelow : ZBox → ℕ → ℕ → Type 0
NoneNearBelow b z k = (a : ℕ) → IsInside b a → a < z → a / 2 ^ k < z / 2 ^ k

pub none_near_below-suc : (b : ZBox) (z k : ℕ) → NoneNearBelow b z k → (z / 2 ^ k % 2 ≡ 1 → Meets b k (z / 2 ^ k - 1) → ⊥) → NoneNearBelow b z (k + 1)
none_near_below-suc b z k none apart a inside below =
    let near = none a inside below in
    let za = half_prefix k z in
    let aa = half_prefix k a in
    elim (cases_lt (a / 2 ^ k / 2) (z / 2 ^ k / 2)) [
      | inl l ↦ omega arith
      | inr g ↦ absurd (apart (omega arith) (meets b k (z / 2 ^ k - 1) a inside (omega arith)))
    ]

pub greatest_below : (b : ZBox) (z k : ℕ) → NoneNearBelow b z k → z / 2 ^ k % 2 ≡ 1 → (z / 2 ^ k - 1 + 1) * 2 ^ k ≤ 2 ^ 63 → Meets b k (z / 2 ^ k - 1)
    → IsGreatestBelow b z (address_at (earlier_of (last_of b) (spot_at (cell_last k (z / 2 ^ k - 1)))))
greatest_below b z k none odd room meet =
    let p = z / 2 ^ k - 1 in
    let high = spot_at (cell_last k p) in
    let s = earlier_of (last_of b) high in
    let order = box_ordered b in
    let cell_order = after_first k p (cell_last k p) (last_prefix k p) in
    let to_box : IsWithin s (last_of b) = record { x_within = omega arith; y_within = omega arith; offset_within = omega arith } in
    let to_cell : IsWithin s high = record { x_within = omega arith; y_within = omega arith; offset_within = omega arith } in
    let from_box : IsWithin (first_of b) s = earlier_within (last_of b) high (first_of b) order meet.ends in
    let from_cell : IsWithin (spot_at (cell_first k p)) s = earlier_within (last_of b) high (spot_at (cell_first k p)) meet.starts cell_order in
    let prefix = in_cell k p s room from_cell to_cell in
    let cube = within-cube s (last_of b) to_box (box_in_cube b) in
    record {
      below = above_prefix k (address_at s) z (omega arith);
      inside = inside_at b s from_box to_box;
      greatest = λ a inside below. elim (cases_lt (a / 2 ^ k) p) [
        | inl beyond ↦ omega (arith, above_prefix k a (address_at s) (omega arith))
        | inr at ↦
            let here : a / 2 ^ k ≡ p = omega (arith, none a inside below) in
            let w = earlier_within (last_of b) high (spot_at a) inside.to_last (before_last k p a here) in
            subst (λ n. n ≤ address_at s) (address-spot a inside.is_address) (address-mono (spot_at a) s w cube)
      ];
    }

-- every address is below 2 ^ 63, so a greater z stands for no more than that
pub greatest_below-min : (b : ZBox) (z y m : ℕ) → y ≡ min z (2 ^ 63) → IsGreatestBelow b y m → IsGreatestBelow b z m
greatest_below-min b z y m e h = record {
  below = omega (arith, h.below);
  inside = h.inside;
  greatest = λ a inside below. h.greatest a inside (omega (arith, inside.is_address));
}

-- no address of the box is after that of its last place
pub past_last : (b : ZBox) (t : Spot) (z m : ℕ) → m ≡ address_at t → last_of b ≡ t → m ≤ z → (a : ℕ) → IsInside b a → a ≤ z
past_last b t z m m_is same over a inside =
    let last : m ≡ address_at (last_of b) = m_is ∙ ap address_at (sym same) in
    omega (arith, last, address-mono (spot_at a) (last_of b) inside.to_last (box_in_cube b), address-spot a inside.is_address)

-- past the highest level none is left
pub none_above : (b : ZBox) (z k : ℕ) → NoneNear b z k → 63 ≤ k → (a : ℕ) → IsInside b a → a ≤ z
none_above b z k none past a inside =
    elim (cases_lt z a) [
      | inl above ↦ let wide : 2 ^ 63 ≤ 2 ^ k = pow_mono past in
          absurd (omega (arith, none a inside above, no_prefix a k (omega (arith, inside.is_address))))
      | inr below ↦ below
    ]

pub none_below : (b : ZBox) (z k : ℕ) → NoneNearBelow b z k → 64 ≤ k → z < 2 ^ 64 → (a : ℕ) → IsInside b a → z ≤ a
none_below b z k none past fits a inside =
    elim (cases_lt a z) [
      | inl below ↦ let wide : 2 ^ 64 ≤ 2 ^ k = pow_mono past in
          absurd (omega (arith, none a inside below, no_prefix z k (omega arith)))
      | inr above ↦ above
    ]

-- ---- what the code knows

pub some_of : (b : ZBox) (z : ℕ) (s t : Spot) (r : Option ℕ) → first_of b ≡ s → last_of b ≡ t
    → IfSome r (λ m. (d : ZBox) → first_of d ≡ s → last_of d ≡ t → IsLeastAbove d z m) → IfSome r (IsLeastAbove b z)
some_of b z s t (Some m) first_is last_is h = h b first_is last_is
some_of b z s t None first_is last_is h = tt

pub none_of : (b : ZBox) (z : ℕ) (s t : Spot) (r : Option ℕ) → first_of b ≡ s → last_of b ≡ t
    → IfNone r ((d : ZBox) → first_of d ≡ s → last_of d ≡ t → (a : ℕ) → IsInside d a → a ≤ z) → IfNone r ((a : ℕ) → IsInside b a → a ≤ z)
none_of b z s t (Some m) first_is last_is h = tt
none_of b z s t None first_is last_is h = h b first_is last_is

pub meets_from : (b : ZBox) (k p : ℕ) (s t u v : Spot) → s ≡ spot_at (cell_first k p) → t ≡ last_of b → u ≡ first_of b → v ≡ spot_at (cell_last k p)
    → IsWithin s t → IsWithin u v → Meets b k p
meets_from b k p s t u v es et eu ev starts ends = record {
  starts = subst (λ w. IsWithin w (last_of b)) es (subst (λ w. IsWithin s w) et starts);
  ends = subst (λ w. IsWithin w (spot_at (cell_last k p))) eu (subst (λ w. IsWithin u w) ev ends);
}

pub meets_to : (b : ZBox) (k p : ℕ) (s t u v : Spot) → s ≡ spot_at (cell_first k p) → t ≡ last_of b → u ≡ first_of b → v ≡ spot_at (cell_last k p)
    → Meets b k p → IsWithin s t × IsWithin u v
meets_to b k p s t u v es et eu ev m = (
  subst (λ w. IsWithin w t) (sym es) (subst (λ w. IsWithin (spot_at (cell_first k p)) w) (sym et) m.starts),
  subst (λ w. IsWithin w v) (sym eu) (subst (λ w. IsWithin (first_of b) w) (sym ev) m.ends),
)

pub room_above : (z k : ℕ) → z < 2 ^ 63 → k < 63 → z / 2 ^ k % 2 ≡ 0 → (z / 2 ^ k + 1 + 1) * 2 ^ k ≤ 2 ^ 63
room_above z k fits low even =
    let i = 62 - k in
    let j = 63 - k in
    let whole : j + k ≡ 63 = omega arith in
    let step : j ≡ suc i = omega arith in
    let twice : 2 ^ j ≡ 2 ^ i * 2 = ap (λ e. 2 ^ e) step ∙ pow-suc 2 i in
    let below : z / 2 ^ k < 2 ^ j = shr_below z j k (subst (λ e. z < 2 ^ e) (sym whole) fits) in
    let next : z / 2 ^ k + 1 + 1 ≤ 2 ^ j = omega arith in
    let all : 2 ^ 63 ≡ 2 ^ j * 2 ^ k = ap (λ e. 2 ^ e) (sym whole) ∙ pow-add 2 j k in
    omega (arith, mul-le (z / 2 ^ k + 1 + 1) (2 ^ k) (2 ^ j) (2 ^ k) next (omega arith))

pub room_below : (z k : ℕ) → z ≤ 2 ^ 63 → z / 2 ^ k % 2 ≡ 1 → (z / 2 ^ k - 1 + 1) * 2 ^ k ≤ 2 ^ 63
room_below z k fits odd =
    let same : z / 2 ^ k - 1 + 1 ≡ z / 2 ^ k = omega arith in
    omega (arith, ap (λ q. q * 2 ^ k) same, div-mul-le_self z (2 ^ k))
