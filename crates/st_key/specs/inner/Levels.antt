-- The order of points by the highest level at which they differ. `law::scan_order` states that it is the order of their digits.
use Rattle.std.specs.Prelude.{◌≡◌, ℕ, ◌/◌, ◌<◌, ◌⊎◌}
use Rattle.std.specs.Int.{bit_at}
use Rattle.st_key.specs.declared.period.Period.{Period}
use Rattle.st_key.specs.declared.point.Point.{Point}
use Rattle.st_key.specs.Order.{Spot, spot_of}
use Rattle.st_key.specs.Period.{seconds_of}

-- above this level the two have the same bits
pub record SameAbove (level : ℕ) (a b : Spot) : Type 0 where
  pub same_x : (i : ℕ) → level < i → bit_at a.x i ≡ bit_at b.x i
  pub same_y : (i : ℕ) → level < i → bit_at a.y i ≡ bit_at b.y i
  pub same_offset : (i : ℕ) → level < i → bit_at a.offset i ≡ bit_at b.offset i

-- at this level a comes first by the offset's bit, else by the bit of y, else by that of x
abbrev pub FirstAt : ℕ → Spot → Spot → Type 0
FirstAt level a b =
    (bit_at a.offset level < bit_at b.offset level)
    ⊎ ((bit_at a.offset level ≡ bit_at b.offset level)
    × ((bit_at a.y level < bit_at b.y level)
    ⊎ ((bit_at a.y level ≡ bit_at b.y level) × (bit_at a.x level < bit_at b.x level))))

-- by bin, and in one bin by the bits at the highest level at which the points differ
abbrev pub ComesBefore : Period → Point → Point → Type 0
ComesBefore period p q =
    (p.t / seconds_of period < q.t / seconds_of period)
    ⊎ ((p.t / seconds_of period ≡ q.t / seconds_of period)
    × ((level : ℕ) × SameAbove level (spot_of period p) (spot_of period q) × FirstAt level (spot_of period p) (spot_of period q)))
