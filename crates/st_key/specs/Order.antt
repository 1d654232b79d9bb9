-- The order of points in a scan.
use Rattle.std.specs.Prelude.{ℕ, zero, suc, ◌/◌, ◌%◌, List, [], ◌∷◌}
use Rattle.std.specs.Int.{bit_at}
use Rattle.st_key.specs.declared.period.Period.{Period}
use Rattle.st_key.specs.declared.point.Point.{Point}
use Rattle.st_key.specs.Period.{seconds_of}

-- a place inside a bin
pub record Spot : Type 0 where
  pub x : ℕ
  pub y : ℕ
  pub offset : ℕ

abbrev pub spot_of : Period → Point → Spot
spot_of period p = record { x = p.x; y = p.y; offset = p.t % seconds_of period }

-- at each level below this one, from the highest down, the bits of the offset, of y and of x
unfoldable pub bits_below : ℕ → Spot → List ℕ
bits_below zero s = []
bits_below (suc level) s = bit_at s.offset level ∷ bit_at s.y level ∷ bit_at s.x level ∷ bits_below level s

-- the bin, and then the bits: points are scanned in the lexicographic order of these
abbrev pub digits_of : Period → Point → List ℕ
digits_of period p = p.t / seconds_of period ∷ bits_below 21 (spot_of period p)
