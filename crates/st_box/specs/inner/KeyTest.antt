-- A stage of the code, which no reader has to believe: what a key's address and its bin say of a query.
use Rattle.std.specs.Prelude.{ℕ, ◌≤◌, ◌/◌}
use Rattle.st_key.specs.declared.period.Period.{Period}
use Rattle.st_key.specs.Morton.{x_of, y_of, offset_of}
use Rattle.st_key.specs.Period.{seconds_of}
use Rattle.st_box.specs.declared.query.Query.{Query}
use Rattle.st_box.specs.inner.Bins.{first_offset_of, last_offset_of}

-- the address is that of a place in the query's box
pub record IsPlaceIn (q : Query) (address : ℕ) : Type 0 where
  pub x_from : q.x0 ≤ x_of address
  pub x_to : x_of address ≤ q.x1
  pub y_from : q.y0 ≤ y_of address
  pub y_to : y_of address ≤ q.y1

-- the bin and the address are those of a second in the query's span
pub record IsTimeIn (q : Query) (period : Period) (bin address : ℕ) : Type 0 where
  pub from_first_bin : q.t0 / seconds_of period ≤ bin
  pub to_last_bin : bin ≤ q.t1 / seconds_of period
  pub from_first : first_offset_of period q.t0 bin ≤ offset_of address
  pub to_last : offset_of address ≤ last_offset_of period q.t1 bin
