-- A place in a box.
use Rattle.std.specs.Prelude.{ℕ}
use Rattle.st_key.specs.Order.{Spot}
use Rattle.st_box.specs.Corner.{IsWithin}
use Rattle.st_box.specs.declared.zbox.ZBox.{ZBox}
use Rattle.st_box.specs.ZBox.{first_of, last_of}

abbrev pub IsInBox : ZBox → (x y offset : ℕ) → Type 0
IsInBox b x y offset = let s : Spot = record { x = x; y = y; offset = offset } in IsWithin (first_of b) s × IsWithin s (last_of b)
