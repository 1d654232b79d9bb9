-- A stage of the code, which no reader has to believe: rows inside a query.
use Rattle.std.specs.Prelude.{ℕ, Bool, ◌&&◌, nat_le}
use Rattle.st_key.specs.declared.period.Period.{Period}
use Rattle.st_box.specs.declared.query.Query.{Query}
use Rattle.st_box.specs.Query.{is_inside}
use Rattle.st_index.specs.declared.row.Row.{Row}
use Rattle.st_index.specs.inner.Entries.{rank_of}

-- whether the row's point is inside the query
abbrev pub has_row : {A : Type 0} → Query → Row A → Bool
has_row q row = is_inside q row.point

-- and its key does not come before a place
abbrev pub has_row_from : {A : Type 0} → Period → Query → ℕ → Row A → Bool
has_row_from period q start row = nat_le start (rank_of period row) && is_inside q row.point
