-- Boxes with the same bounds are the same box.
use Rattle.std.proofs.Common.{◌≡◌, ℕ, ◌^◌, ◌<◌, ◌≤◌, ap, sym, subst}
use Rattle.std.proofs.Props.{props}
use Rattle.st_box.specs.declared.zbox.ZBox.{ZBox}
use Rattle.st_box.specs.inner.Bounds.{HasBounds}

abbrev Facts : ℕ → ℕ → ℕ → ℕ → ℕ → ℕ → Type 0
Facts x0 x1 y0 y1 o0 o1 = (x0 ≤ x1) × (y0 ≤ y1) × (o0 ≤ o1) × (x1 < 2 ^ 21) × (y1 < 2 ^ 21) × (o1 < 2 ^ 21)

abbrev make : (x0 x1 y0 y1 o0 o1 : ℕ) → Facts x0 x1 y0 y1 o0 o1 → ZBox
make x0 x1 y0 y1 o0 o1 f = record {
  x_first = x0;
  x_last = x1;
  y_first = y0;
  y_last = y1;
  offset_first = o0;
  offset_last = o1;
  x_ordered = f.0;
  y_ordered = f.1;
  offset_ordered = f.2;
  x_in_range = f.3;
  y_in_range = f.4;
  offset_in_range = f.5;
}

facts_alike : (x0 x1 y0 y1 o0 o1 : ℕ) → IsProp (Facts x0 x1 y0 y1 o0 o1)
facts_alike x0 x1 y0 y1 o0 o1 = hlevel props

abbrev Is : ZBox → (x0 x1 y0 y1 o0 o1 : ℕ) → Type 0
Is b x0 x1 y0 y1 o0 o1 = (f : Facts x0 x1 y0 y1 o0 o1) → b ≡ make x0 x1 y0 y1 o0 o1 f

itself : (b : ZBox) → Is b b.x_first b.x_last b.y_first b.y_last b.offset_first b.offset_last
itself b f =
    ap (make b.x_first b.x_last b.y_first b.y_last b.offset_first b.offset_last)
    (facts_alike b.x_first b.x_last b.y_first b.y_last b.offset_first b.offset_last (b.x_ordered, b.y_ordered, b.offset_ordered, b.x_in_range, b.y_in_range, b.offset_in_range) f)

is_other : (b c : ZBox) → HasBounds b.x_first b.x_last b.y_first b.y_last b.offset_first b.offset_last c
    → Is b c.x_first c.x_last c.y_first c.y_last c.offset_first c.offset_last
is_other b c e =
    subst (λ n. Is b c.x_first c.x_last c.y_first c.y_last c.offset_first n) (sym e.5)
    (subst (λ n. Is b c.x_first c.x_last c.y_first c.y_last n b.offset_last) (sym e.4)
    (subst (λ n. Is b c.x_first c.x_last c.y_first n b.offset_first b.offset_last) (sym e.3)
    (subst (λ n. Is b c.x_first c.x_last n b.y_last b.offset_first b.offset_last) (sym e.2)
    (subst (λ n. Is b c.x_first n b.y_first b.y_last b.offset_first b.offset_last) (sym e.1)
    (subst (λ n. Is b n b.x_last b.y_first b.y_last b.offset_first b.offset_last) (sym e.0) (itself b))))))

pub same_box : (b c : ZBox) → HasBounds b.x_first b.x_last b.y_first b.y_last b.offset_first b.offset_last c → c ≡ b
same_box b c e = sym (is_other b c e (c.x_ordered, c.y_ordered, c.offset_ordered, c.x_in_range, c.y_in_range, c.offset_in_range))
