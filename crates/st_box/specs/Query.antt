-- Queries: boxes of space and time, both ends included.
use Rattle.std.specs.Prelude.{ℕ, ◌≡◌, Bool, ◌&&◌, nat_le, IsTrue}
use Rattle.st_key.specs.declared.key.Key.{Key}
use Rattle.st_key.specs.declared.period.Period.{Period}
use Rattle.st_key.specs.declared.point.Point.{Point}
use Rattle.st_key.specs.Key.{IsKeyOf}
use Rattle.st_box.specs.declared.query.Query.{Query}

-- these are the bounds of the query
abbrev pub Makes : (x0 x1 y0 y1 t0 t1 : ℕ) → Query → Type 0
Makes x0 x1 y0 y1 t0 t1 q = (q.x0 ≡ x0) × (q.x1 ≡ x1) × (q.y0 ≡ y0) × (q.y1 ≡ y1) × (q.t0 ≡ t0) × (q.t1 ≡ t1)

-- whether each coordinate is between its bounds
abbrev pub is_inside : Query → Point → Bool
is_inside q p = nat_le q.x0 p.x && nat_le p.x q.x1 && nat_le q.y0 p.y && nat_le p.y q.y1 && nat_le q.t0 p.t && nat_le p.t q.t1

-- the key is that of a point inside the query
pub record HasKey (q : Query) (period : Period) (k : Key) : Type 0 where
  pub point : Point
  pub inside : IsTrue (is_inside q point)
  pub key : IsKeyOf period point k
