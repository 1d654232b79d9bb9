-- Queries with the same bounds are the same query.
use Rattle.std.proofs.Common.{◌≡◌, ℕ, ◌^◌, ◌<◌, ◌≤◌, ap, sym, subst}
use Rattle.std.proofs.Props.{props}
use Rattle.st_box.specs.declared.query.Query.{Query}
use Rattle.st_box.specs.Query.{Makes}

abbrev Facts : ℕ → ℕ → ℕ → ℕ → ℕ → ℕ → Type 0
Facts x0 x1 y0 y1 t0 t1 = (x0 ≤ x1) × (y0 ≤ y1) × (t0 ≤ t1) × (x1 < 2 ^ 21) × (y1 < 2 ^ 21) × (t1 < 19818086400)

abbrev make : (x0 x1 y0 y1 t0 t1 : ℕ) → Facts x0 x1 y0 y1 t0 t1 → Query
make x0 x1 y0 y1 t0 t1 f = record {
  x0 = x0;
  x1 = x1;
  y0 = y0;
  y1 = y1;
  t0 = t0;
  t1 = t1;
  x_ordered = f.0;
  y_ordered = f.1;
  t_ordered = f.2;
  x_in_range = f.3;
  y_in_range = f.4;
  t_in_range = f.5;
}

facts_alike : (x0 x1 y0 y1 t0 t1 : ℕ) → IsProp (Facts x0 x1 y0 y1 t0 t1)
facts_alike x0 x1 y0 y1 t0 t1 = hlevel props

abbrev Is : Query → (x0 x1 y0 y1 t0 t1 : ℕ) → Type 0
Is p x0 x1 y0 y1 t0 t1 = (f : Facts x0 x1 y0 y1 t0 t1) → p ≡ make x0 x1 y0 y1 t0 t1 f

itself : (p : Query) → Is p p.x0 p.x1 p.y0 p.y1 p.t0 p.t1
itself p f =
    ap (make p.x0 p.x1 p.y0 p.y1 p.t0 p.t1) (facts_alike p.x0 p.x1 p.y0 p.y1 p.t0 p.t1 (p.x_ordered, p.y_ordered, p.t_ordered, p.x_in_range, p.y_in_range, p.t_in_range) f)

is_other : (p q : Query) → Makes p.x0 p.x1 p.y0 p.y1 p.t0 p.t1 q → Is p q.x0 q.x1 q.y0 q.y1 q.t0 q.t1
is_other p q e =
    subst (λ n. Is p q.x0 q.x1 q.y0 q.y1 q.t0 n) (sym e.5)
    (subst (λ n. Is p q.x0 q.x1 q.y0 q.y1 n p.t1) (sym e.4)
    (subst (λ n. Is p q.x0 q.x1 q.y0 n p.t0 p.t1) (sym e.3)
    (subst (λ n. Is p q.x0 q.x1 n p.y1 p.t0 p.t1) (sym e.2)
    (subst (λ n. Is p q.x0 n p.y0 p.y1 p.t0 p.t1) (sym e.1)
    (subst (λ n. Is p n p.x1 p.y0 p.y1 p.t0 p.t1) (sym e.0) (itself p))))))

pub same_query : (p q : Query) → Makes p.x0 p.x1 p.y0 p.y1 p.t0 p.t1 q → q ≡ p
same_query p q e = sym (is_other p q e (q.x_ordered, q.y_ordered, q.t_ordered, q.x_in_range, q.y_in_range, q.t_in_range))
