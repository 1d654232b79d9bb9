-- What is made of places.
use Rattle.std.specs.Prelude.{ℕ, min, max}
use Rattle.st_key.specs.Morton.{address_of}
use Rattle.st_key.specs.Order.{Spot}

-- the address of a place
abbrev pub address_at : Spot → ℕ
address_at s = address_of s.x s.y s.offset

abbrev pub later_of : Spot → Spot → Spot
later_of s t = record { x = max s.x t.x; y = max s.y t.y; offset = max s.offset t.offset }

abbrev pub earlier_of : Spot → Spot → Spot
earlier_of s t = record { x = min s.x t.x; y = min s.y t.y; offset = min s.offset t.offset }
