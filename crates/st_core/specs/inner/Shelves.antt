-- An invariant of a representation, which no reader has to believe: what a list of tables holds.
use Rattle.std.specs.Prelude.{List, [], ◌∷◌, ◌++◌, map}
use Rattle.st_text.specs.Texts.{in_order}
use Rattle.st_table.specs.Rows.{Held, full_name}
use Rattle.st_table.specs.inner.Joined.{all_held}
use Rattle.st_core.specs.declared.store.tables.Shelf.{Shelf}
use Rattle.st_core.specs.inner.Tables.{Heading, TablesValue}

abbrev pub heading_of : {A : Type 0} → Shelf A → Heading
heading_of shelf = record { table = shelf.name; period = shelf.table.period }

abbrev pub headings_in : {A : Type 0} → List (Shelf A) → List Heading
headings_in shelves = map heading_of shelves

-- the rows of each table, one table after another
abbrev pub rows_in : {A : Type 0} → List (Shelf A) → List (Held A)
rows_in [] = []
rows_in (shelf ∷ shelves) = all_held shelf.name shelf.table.rows ++ rows_in shelves

abbrev pub tables_in : {A : Type 0} → List (Shelf A) → TablesValue A
tables_in shelves = record { headings = headings_in shelves; rows = in_order full_name (rows_in shelves) }
