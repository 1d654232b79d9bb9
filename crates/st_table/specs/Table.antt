-- What a table is seen as, and what changes make of it.
use Rattle.std.specs.Prelude.{List, [], ◌∷◌, Bool, ◌&&◌, not, filter}
use Rattle.st_text.specs.Texts.{Text, same, in_order}
use Rattle.st_key.specs.declared.period.Period.{Period}
use Rattle.st_index.specs.declared.row.Row.{Row}
use Rattle.st_index.specs.Order.{scan_key}

-- a table's period, and its rows in scan order
pub record TableValue (A : Type 0) : Type 0 where
  pub period : Period
  pub rows : List (Row A)

-- whether it is the row of this id and this label text
abbrev pub is_named : {A : Type 0} → (id label : Text) → Row A → Bool
is_named id label row = same row.id id && same row.label label

-- the rows without the one of this id and this label text
abbrev pub without_named : {A : Type 0} → (id label : Text) → List (Row A) → List (Row A)
without_named id label rows = filter (λ row. not (is_named id label row)) rows

-- the rows with this one in place of the one of its name, in scan order
abbrev pub with_row : {A : Type 0} → Period → Row A → List (Row A) → List (Row A)
with_row period row rows = in_order (scan_key period) (row ∷ without_named row.id row.label rows)

-- of a table's rows those of an id that pass a test, by the bytes of their labels
abbrev pub rows_by_label : {A : Type 0} → (id : Text) → (Row A → Bool) → List (Row A) → List (Row A)
rows_by_label id test rows = in_order (λ row. row.label ∷ []) (filter (λ row. same row.id id && test row) rows)
