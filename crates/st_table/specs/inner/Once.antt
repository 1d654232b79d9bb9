-- An invariant of a table, which no reader has to believe: each name is that of one row.
use Rattle.std.specs.Prelude.{◌≤◌, length, List, filter}
use Rattle.st_index.specs.declared.row.Row.{Row}
use Rattle.st_index.specs.inner.Entries.{Name}
use Rattle.st_table.specs.Table.{is_named}

-- the rows of this name
abbrev pub rows_with_name : {A : Type 0} → Name → List (Row A) → List (Row A)
rows_with_name name rows = filter (is_named name.id name.label) rows

-- no two rows have the same id and label text
abbrev pub HasEachOnce : {A : Type 0} → List (Row A) → Type 0
HasEachOnce rows = (name : Name) → length (rows_with_name name rows) ≤ 1
