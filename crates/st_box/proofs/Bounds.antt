-- A point is inside a query where each coordinate is between its bounds.
use Rattle.std.proofs.Common.{◌≡◌, ◌≤◌, Bool, true, ◌&&◌, nat_le}
use Rattle.std.proofs.lemmas.Bool.{leb-true, le-leb, and_parts, and_from}
use Rattle.st_key.specs.declared.point.Point.{Point}
use Rattle.st_box.specs.declared.query.Query.{Query}
use Rattle.st_box.specs.Query.{is_inside}

pub record Has (q : Query) (p : Point) : Type 0 where
  pub x_from : q.x0 ≤ p.x
  pub x_to : p.x ≤ q.x1
  pub y_from : q.y0 ≤ p.y
  pub y_to : p.y ≤ q.y1
  pub t_from : q.t0 ≤ p.t
  pub t_to : p.t ≤ q.t1

-- six tests in a row
all_parts : (a b c d e f : Bool) → (a && b && c && d && e && f) ≡ true
    → (a ≡ true) × (b ≡ true) × (c ≡ true) × (d ≡ true) × (e ≡ true) × (f ≡ true)
all_parts a b c d e f h =
    let t = and_parts (a && b && c && d && e) f h in
    let s = and_parts (a && b && c && d) e t.0 in
    let r = and_parts (a && b && c) d s.0 in
    let q = and_parts (a && b) c r.0 in
    let p = and_parts a b q.0 in
    (p.0, p.1, q.1, r.1, s.1, t.1)

all_from : (a b c d e f : Bool) → a ≡ true → b ≡ true → c ≡ true → d ≡ true → e ≡ true → f ≡ true → (a && b && c && d && e && f) ≡ true
all_from a b c d e f ha hb hc hd he hf =
    and_from (a && b && c && d && e) f (and_from (a && b && c && d) e (and_from (a && b && c) d (and_from (a && b) c (and_from a b ha hb) hc) hd) he) hf

pub has : (q : Query) (p : Point) → is_inside q p ≡ true → Has q p
has q p h =
    let t = all_parts (nat_le q.x0 p.x) (nat_le p.x q.x1) (nat_le q.y0 p.y) (nat_le p.y q.y1) (nat_le q.t0 p.t) (nat_le p.t q.t1) h in
    record {
      x_from = leb-true q.x0 p.x t.0;
      x_to = leb-true p.x q.x1 t.1;
      y_from = leb-true q.y0 p.y t.2;
      y_to = leb-true p.y q.y1 t.3;
      t_from = leb-true q.t0 p.t t.4;
      t_to = leb-true p.t q.t1 t.5;
    }

pub holds : (q : Query) (p : Point) → Has q p → is_inside q p ≡ true
holds q p h =
    all_from (nat_le q.x0 p.x) (nat_le p.x q.x1) (nat_le q.y0 p.y) (nat_le p.y q.y1) (nat_le q.t0 p.t) (nat_le p.t q.t1)
    (le-leb q.x0 p.x h.x_from) (le-leb p.x q.x1 h.x_to) (le-leb q.y0 p.y h.y_from) (le-leb p.y q.y1 h.y_to) (le-leb q.t0 p.t h.t_from) (le-leb p.t q.t1 h.t_to)
