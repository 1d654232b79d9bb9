-- How many rows are inside a query and have a label that is found true.
use Rattle.std.specs.Prelude.{ℕ, Bool, ◌&&◌, List, count_by}
use Rattle.st_box.specs.declared.query.Query.{Query}
use Rattle.st_box.specs.Query.{is_inside}
use Rattle.st_text.specs.Texts.{Text}
use Rattle.st_index.specs.declared.row.Row.{Row}

-- whether the row's point is inside the query, and its label is found true
abbrev pub is_counted : {A : Type 0} → Query → (Text → Bool) → Row A → Bool
is_counted q judges row = is_inside q row.point && judges row.label

-- how many of the rows are so
abbrev pub count_of : {A : Type 0} → Query → (Text → Bool) → List (Row A) → ℕ
count_of q judges rows = count_by (is_counted q judges) rows
