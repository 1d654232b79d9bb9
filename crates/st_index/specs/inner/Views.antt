-- What is seen of the rows of an entry.
use Rattle.std.specs.Prelude.{List, [], ◌∷◌}
use Rattle.st_index.specs.declared.row.Row.{Row}
use Rattle.st_index.specs.declared.rows_view.RowsView.{RowsView}
use Rattle.st_index.specs.declared.rows_view.RowsView.TheVariants.{One, Many}
use Rattle.st_index.specs.RowViews.{row_of_view}

-- the rows in view
abbrev pub viewed : {A : Type 0} → RowsView A → List (Row A)
viewed (One row) = row_of_view row ∷ []
viewed (Many rows) = rows.now
