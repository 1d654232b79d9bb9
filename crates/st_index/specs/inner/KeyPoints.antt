-- An invariant of a representation, which no reader has to believe: which parts are those of a point's key.
use Rattle.std.specs.Prelude.{ℕ, ◌≡◌, ◌/◌, ◌%◌, ◌^◌, ◌<◌}
use Rattle.st_key.specs.declared.period.Period.{Period}
use Rattle.st_key.specs.Morton.{address_of}
use Rattle.st_key.specs.Period.{seconds_of}
use Rattle.st_index.specs.KeyPoints.{point_of_key}

-- these are the parts of a key
abbrev pub IsKey : (bin address : ℕ) → Type 0
IsKey bin address = (bin < 229376) × (address < 2 ^ 63)

-- and the point that they tell has this key
abbrev pub IsPointKey : Period → (bin address : ℕ) → Type 0
IsPointKey period bin address = (bin ≡ (point_of_key period bin address).t / seconds_of period)
    × (address ≡ address_of (point_of_key period bin address).x (point_of_key period bin address).y
    ((point_of_key period bin address).t % seconds_of period))
