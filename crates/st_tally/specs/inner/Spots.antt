-- A representation, which no reader has to believe: a point near a week, as two numbers of 32 bits.
use Rattle.std.specs.Prelude.{ℕ, ◌≡◌, ◌+◌, ◌-◌, ◌*◌, ◌/◌, ◌%◌, ◌^◌, ◌<◌, max, min}
use Rattle.st_key.specs.declared.point.Point.{Point}
use Rattle.st_box.specs.declared.query.Query.{Query}
use Rattle.st_tally.specs.declared.spots.Spot.{Spot}
use Rattle.st_tally.specs.declared.spots.SpotBox.{SpotBox}

-- the 21 lowest bits are x, the next 21 are y, and the others are the seconds since the start of the week, fewer than 2^22 - 1
pub record IsSpotOf (week : ℕ) (s : Spot) (p : Point) : Type 0 where
  pub x : p.x ≡ s.low % 2 ^ 21
  pub y : p.y ≡ s.low / 2 ^ 21 + s.high % 2 ^ 10 * 2 ^ 11
  pub t : p.t ≡ week * 604800 + s.high / 2 ^ 10
  pub below : s.high / 2 ^ 10 < 2 ^ 22 - 1

-- the bounds of a query by which the spots near a week are compared
pub record IsBoxOf (q : Query) (week : ℕ) (b : SpotBox) : Type 0 where
  pub x_first : b.x_first ≡ q.x0
  pub x_size : b.x_size ≡ q.x1 + 1 - q.x0
  pub y_first : b.y_first ≡ q.y0
  pub y_size : b.y_size ≡ q.y1 + 1 - q.y0
  pub t_first : b.t_first ≡ min (q.t0 - week * 604800) (2 ^ 22 - 1)
  pub t_end : b.t_first + b.t_size ≡ max b.t_first (min (q.t1 + 1 - week * 604800) (2 ^ 22 - 1))
