-- The rows of all tables, by their names.
use Rattle.std.specs.Prelude.{List, [], ◌∷◌, Bool, ◌&&◌, not, filter, map}
use Rattle.st_text.specs.Texts.{Text, same, in_order}
use Rattle.st_index.specs.declared.row.Row.{Row}

-- a row and the table that it is in
pub record Held (A : Type 0) : Type 0 where
  pub table : Text
  pub row : Row A

abbrev pub is_held : {A : Type 0} → (table id label : Text) → Held A → Bool
is_held table id label held = same held.table table && same held.row.id id && same held.row.label label

-- the rows of a table
abbrev pub rows_in_table : {A : Type 0} → Text → List (Held A) → List (Row A)
rows_in_table table rows = map (λ held. held.row) (filter (λ held. same held.table table) rows)

abbrev pub without_row : {A : Type 0} → (table id label : Text) → List (Held A) → List (Held A)
without_row table id label rows = filter (λ held. not (is_held table id label held)) rows

-- rows stand by the bytes of their tables' names, then by those of their ids and of their labels
abbrev pub full_name : {A : Type 0} → Held A → List Text
full_name held = held.table ∷ held.row.id ∷ held.row.label ∷ []

abbrev pub without_table : {A : Type 0} → (table : Text) → List (Held A) → List (Held A)
without_table table rows = filter (λ held. not (same held.table table)) rows

-- a put replaces the row of the same table, id and label text
abbrev pub put_row : {A : Type 0} → Held A → List (Held A) → List (Held A)
put_row held rows = in_order full_name (held ∷ without_row held.table held.row.id held.row.label rows)
