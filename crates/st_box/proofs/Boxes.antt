-- What is inside a box.
use Rattle.std.proofs.Common.{◌≡◌, ℕ, ◌+◌, ◌-◌, ◌*◌, ◌/◌, ◌^◌, ◌≤◌, sym, subst, arith}
use Rattle.st_key.specs.Order.{Spot}
use Rattle.st_box.specs.declared.zbox.ZBox.{ZBox}
use Rattle.st_box.specs.Corner.{IsWithin, spot_at}
use Rattle.st_box.specs.inner.Corners.{address_at}
use Rattle.st_box.specs.ZBox.{IsInside, first_of, last_of}
use Rattle.st_box.proofs.Cells.{after_first, before_last, address-mono, address-spot, spot_in_cube, spot-address, address-lt, within-cube, InCube}

-- the first and the last address with the prefix p
abbrev pub cell_first : ℕ → ℕ → ℕ
cell_first k p = p * 2 ^ k

abbrev pub cell_last : ℕ → ℕ → ℕ
cell_last k p = p * 2 ^ k + (2 ^ k - 1)

-- the cell and the box have a place in common
pub record Meets (b : ZBox) (k p : ℕ) : Type 0 where
  pub starts : IsWithin (spot_at (cell_first k p)) (last_of b)
  pub ends : IsWithin (first_of b) (spot_at (cell_last k p))

pub within_trans : (s t u : Spot) → IsWithin s t → IsWithin t u → IsWithin s u
within_trans s t u h g = record { x_within = omega arith; y_within = omega arith; offset_within = omega arith }

-- a cell that holds an address of the box meets it
pub meets : (b : ZBox) (k p a : ℕ) → IsInside b a → a / 2 ^ k ≡ p → Meets b k p
meets b k p a inside prefix = record {
  starts = within_trans (spot_at (cell_first k p)) (spot_at a) (last_of b) (after_first k p a prefix) inside.to_last;
  ends = within_trans (first_of b) (spot_at a) (spot_at (cell_last k p)) inside.from_first (before_last k p a prefix);
}

-- the box is in the cube
pub box_in_cube : (b : ZBox) → InCube (last_of b)
box_in_cube b = record { x_fits = b.x_in_range; y_fits = b.y_in_range; offset_fits = b.offset_in_range }

pub box_ordered : (b : ZBox) → IsWithin (first_of b) (last_of b)
box_ordered b = record { x_within = b.x_ordered; y_within = b.y_ordered; offset_within = b.offset_ordered }

pub inside_at : (b : ZBox) (s : Spot) → IsWithin (first_of b) s → IsWithin s (last_of b) → IsInside b (address_at s)
inside_at b s from_first to_last =
    let cube = within-cube s (last_of b) to_last (box_in_cube b) in
    let same = spot-address s cube in
    record {
      is_address = address-lt s cube;
      from_first = subst (λ t. IsWithin (first_of b) t) (sym same) from_first;
      to_last = subst (λ t. IsWithin t (last_of b)) (sym same) to_last;
    }

pub first_inside : (b : ZBox) (m : ℕ) → m ≡ address_at (first_of b) → IsInside b m
first_inside b m e = subst (IsInside b) (sym e) (inside_at b (first_of b) (record { x_within = omega arith; y_within = omega arith; offset_within = omega arith }) (box_ordered b))

pub first_least : (b : ZBox) (m : ℕ) → m ≡ address_at (first_of b) → (a : ℕ) → IsInside b a → m ≤ a
first_least b m e a inside =
    omega (arith, address-mono (first_of b) (spot_at a) inside.from_first (spot_in_cube a), address-spot a inside.is_address)
