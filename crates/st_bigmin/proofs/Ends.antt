-- The first and the last address of a box in a cell.
use Rattle.std.proofs.Common.{◌≡◌, ℕ, ◌+◌, ◌-◌, ◌*◌, ◌/◌, ◌^◌, ◌<◌, ◌≤◌, sym, ap, ◌∙◌, subst, arith}
use Rattle.std.proofs.lemmas.Nat.{pow-add, shr_below, mul-le}
use Rattle.st_key.specs.Order.{Spot}
use Rattle.st_box.specs.declared.zbox.ZBox.{ZBox}
use Rattle.st_box.specs.Corner.{IsWithin, spot_at}
use Rattle.st_box.specs.inner.Corners.{address_at, later_of, earlier_of}
use Rattle.st_box.specs.ZBox.{IsInside, first_of, last_of}
use Rattle.st_bigmin.specs.inner.Runs.{IsLeastInCell, IsGreatestInCell}
use Rattle.st_box.proofs.Cells.{after_first, before_last, in_cell, address-mono, address-spot, spot_in_cube, last_prefix, within-cube}
use Rattle.st_box.proofs.Boxes.{cell_first, cell_last, meets, box_in_cube, box_ordered, inside_at}

-- the cell of an address ends below 2^63
pub cell_room : (k p a : ℕ) → k < 64 → a < 2 ^ 63 → a / 2 ^ k ≡ p → k ≤ 63 → (p + 1) * 2 ^ k ≤ 2 ^ 63
cell_room k p a level fits prefix low =
    let j = 63 - k in
    let whole : j + k ≡ 63 = omega arith in
    let below : a / 2 ^ k < 2 ^ j = shr_below a j k (subst (λ e. a < 2 ^ e) (sym whole) fits) in
    let next : p + 1 ≤ 2 ^ j = omega arith in
    let all : 2 ^ 63 ≡ 2 ^ j * 2 ^ k = ap (λ e. 2 ^ e) (sym whole) ∙ pow-add 2 j k in
    omega (arith, mul-le (p + 1) (2 ^ k) (2 ^ j) (2 ^ k) next (omega arith))

pub later_within : (s t u : Spot) → IsWithin s u → IsWithin t u → IsWithin (later_of s t) u
later_within s t u h g = record { x_within = omega arith; y_within = omega arith; offset_within = omega arith }

pub earlier_within : (s t u : Spot) → IsWithin u s → IsWithin u t → IsWithin u (earlier_of s t)
earlier_within s t u h g = record { x_within = omega arith; y_within = omega arith; offset_within = omega arith }

pub least_in_cell : (b : ZBox) (k p a : ℕ) → k < 64 → IsInside b a → a / 2 ^ k ≡ p
    → IsLeastInCell b k p (address_at (later_of (first_of b) (spot_at (p * 2 ^ k))))
least_in_cell b k p a level there prefix =
    let room = cell_room k p a level there.is_address prefix (omega arith) in
    let meet = meets b k p a there prefix in
    let low = spot_at (cell_first k p) in
    let s = later_of (first_of b) low in
    let order = box_ordered b in
    let cell_order = after_first k p (cell_last k p) (last_prefix k p) in
    let from_box : IsWithin (first_of b) s = record { x_within = omega arith; y_within = omega arith; offset_within = omega arith } in
    let from_cell : IsWithin low s = record { x_within = omega arith; y_within = omega arith; offset_within = omega arith } in
    let to_box : IsWithin s (last_of b) = later_within (first_of b) low (last_of b) order meet.starts in
    let to_cell : IsWithin s (spot_at (cell_last k p)) = later_within (first_of b) low (spot_at (cell_last k p)) meet.ends cell_order in
    record {
      inside = inside_at b s from_box to_box;
      prefix = in_cell k p s room from_cell to_cell;
      least = λ e inside here.
          let w = later_within (first_of b) low (spot_at e) inside.from_first (after_first k p e here) in
          subst (λ n. address_at s ≤ n) (address-spot e inside.is_address) (address-mono s (spot_at e) w (spot_in_cube e));
    }

pub greatest_in_cell : (b : ZBox) (k p a : ℕ) → k < 64 → IsInside b a → a / 2 ^ k ≡ p
    → IsGreatestInCell b k p (address_at (earlier_of (last_of b) (spot_at (p * 2 ^ k + (2 ^ k - 1)))))
greatest_in_cell b k p a level there prefix =
    let room = cell_room k p a level there.is_address prefix (omega arith) in
    let meet = meets b k p a there prefix in
    let high = spot_at (cell_last k p) in
    let s = earlier_of (last_of b) high in
    let order = box_ordered b in
    let cell_order = after_first k p (cell_last k p) (last_prefix k p) in
    let to_box : IsWithin s (last_of b) = record { x_within = omega arith; y_within = omega arith; offset_within = omega arith } in
    let to_cell : IsWithin s high = record { x_within = omega arith; y_within = omega arith; offset_within = omega arith } in
    let from_box : IsWithin (first_of b) s = earlier_within (last_of b) high (first_of b) order meet.ends in
    let from_cell : IsWithin (spot_at (cell_first k p)) s = earlier_within (last_of b) high (spot_at (cell_first k p)) meet.starts cell_order in
    let cube = within-cube s (last_of b) to_box (box_in_cube b) in
    record {
      inside = inside_at b s from_box to_box;
      prefix = in_cell k p s room from_cell to_cell;
      greatest = λ e inside here.
          let w = earlier_within (last_of b) high (spot_at e) inside.to_last (before_last k p e here) in
          subst (λ n. n ≤ address_at s) (address-spot e inside.is_address) (address-mono (spot_at e) s w cube);
    }
