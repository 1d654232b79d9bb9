-- A box of x, y and offset, as a set of addresses.
use Rattle.std.specs.Prelude.{ℕ, ◌<◌, ◌^◌}
use Rattle.st_box.specs.Corner.{spot_at, IsWithin}
use Rattle.st_box.specs.declared.zbox.ZBox.{ZBox}
use Rattle.st_key.specs.Order.{Spot}

abbrev pub first_of : ZBox → Spot
first_of b = record { x = b.x_first; y = b.y_first; offset = b.offset_first }

abbrev pub last_of : ZBox → Spot
last_of b = record { x = b.x_last; y = b.y_last; offset = b.offset_last }

-- the address is that of a place in the box
pub record IsInside (b : ZBox) (a : ℕ) : Type 0 where
  pub is_address : a < 2 ^ 63
  pub from_first : IsWithin (first_of b) (spot_at a)
  pub to_last : IsWithin (spot_at a) (last_of b)
