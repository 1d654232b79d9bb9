-- An invariant of a representation, which no reader has to believe: the memory that one more row takes in an index of one list.
use Rattle.std.specs.Prelude.{◌≡◌, ◌+◌, ◌^◌, ◌<◌, [], length, vec_capacity}
use Rattle.std.specs.List.{All}
use Rattle.st_index.specs.declared.row.Row.{Row}
use Rattle.st_index.specs.declared.list_index.ListSpare.{ListSpare}
use Rattle.st_index.specs.inner.ListValue.{ListValue}
use Rattle.st_index.specs.inner.Entries.{EntryValue, rank_of, rows_of}

pub record HasListRoom {A : Type 0} (s : ListValue A) (row : Row A) (spare : ListSpare A) : Type 0 where
  pub no_entries : spare.entries.items ≡ []
  pub room : length s.entries < vec_capacity spare.entries
  pub no_rows : spare.rows.items ≡ []
  pub rows_room : All (λ (e : EntryValue A). e.at ≡ rank_of s.period row → 0 < length e.rows
      → length e.rows < vec_capacity spare.rows) s.entries
  pub no_row_room : All (λ (e : EntryValue A). e.at ≡ rank_of s.period row → ⊥) s.entries → vec_capacity spare.rows ≡ 0
  pub count : length (rows_of s.entries) + 1 < 2 ^ 64
