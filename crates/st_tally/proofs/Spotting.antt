-- Points near a week, each in 64 bits.
use Rattle.std.proofs.Common.{◌≡◌, ℕ, sym, ◌∙◌}
use Rattle.st_key.specs.declared.point.Point.{Point}
use Rattle.st_key.proofs.PointLemmas.{same_point as equal_points}
use Rattle.st_tally.specs.declared.spots.Spot.{Spot}
use Rattle.st_tally.specs.inner.Spots.{IsSpotOf}

-- a spot is that of one point
pub same_point : (week : ℕ) (spot : Spot) (p q : Point) → IsSpotOf week spot p → IsSpotOf week spot q → p ≡ q
same_point week spot p q a b = equal_points p q (a.x ∙ sym b.x) (a.y ∙ sym b.y) (a.t ∙ sym b.t)
