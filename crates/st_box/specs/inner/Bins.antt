-- The box of a query in a bin.
use Rattle.std.specs.Prelude.{ℕ, ◌≡◌, ◌-◌, ◌/◌, ◌%◌, ◌↔◌, if◌then◌else◌, nat_eq}
use Rattle.st_key.specs.declared.key.Key.{Key}
use Rattle.st_key.specs.declared.period.Period.{Period}
use Rattle.st_key.specs.Period.{seconds_of}
use Rattle.st_box.specs.declared.query.Query.{Query}
use Rattle.st_box.specs.declared.zbox.ZBox.{ZBox}
use Rattle.st_box.specs.ZBox.{IsInside}
use Rattle.st_box.specs.Query.{HasKey}

-- the box has the query's addresses in this bin, and no other
abbrev pub IsBoxIn : Query → Period → ℕ → ZBox → Type 0
IsBoxIn q period bin b = (k : Key) → k.bin ≡ bin → (IsInside b k.address ↔ HasKey q period k)

-- the first offset of a bin of the span, and the last
abbrev pub first_offset_of : Period → (t0 bin : ℕ) → ℕ
first_offset_of period t0 bin = if nat_eq bin (t0 / seconds_of period) then t0 % seconds_of period else 0

abbrev pub last_offset_of : Period → (t1 bin : ℕ) → ℕ
last_offset_of period t1 bin = if nat_eq bin (t1 / seconds_of period) then t1 % seconds_of period else seconds_of period - 1
