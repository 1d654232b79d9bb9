-- A place in a box, by its address.
use Rattle.std.proofs.Common.{◌↔◌, ℕ, ◌<◌, ◌^◌, subst}
use Rattle.st_key.specs.Morton.{address_of}
use Rattle.st_key.specs.Order.{Spot}
use Rattle.st_box.specs.Corner.{IsWithin}
use Rattle.st_box.specs.declared.zbox.ZBox.{ZBox}
use Rattle.st_box.specs.ZBox.{IsInside, first_of, last_of}
use Rattle.st_box.proofs.Boxes.{inside_at}
use Rattle.st_box.proofs.Cells.{spot-address}
use Rattle.st_lanes.specs.inner.Lanes.{IsInBox}

pub in_box_by_address : (b : ZBox) (x y offset : ℕ) → x < 2 ^ 21 → y < 2 ^ 21 → offset < 2 ^ 21 → IsInBox b x y offset ↔ IsInside b (address_of x y offset)
in_box_by_address b x y offset fx fy fo =
    let s : Spot = record { x = x; y = y; offset = offset } in
    let same = spot-address s (record { x_fits = fx; y_fits = fy; offset_fits = fo }) in (
      λ h. inside_at b s h.0 h.1,
      λ h. (subst (λ t. IsWithin (first_of b) t) same h.from_first, subst (λ t. IsWithin t (last_of b)) same h.to_last),
    )
