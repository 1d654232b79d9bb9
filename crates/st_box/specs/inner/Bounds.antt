-- The bounds of a box.
use Rattle.std.specs.Prelude.{ℕ, ◌≡◌}
use Rattle.st_box.specs.declared.zbox.ZBox.{ZBox}

-- these are the bounds of the box
abbrev pub HasBounds : (x0 x1 y0 y1 o0 o1 : ℕ) → ZBox → Type 0
HasBounds x0 x1 y0 y1 o0 o1 b =
    (b.x_first ≡ x0) × (b.x_last ≡ x1) × (b.y_first ≡ y0) × (b.y_last ≡ y1) × (b.offset_first ≡ o0) × (b.offset_last ≡ o1)
