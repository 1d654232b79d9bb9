-- What views of rows show.
use Rattle.st_key.specs.declared.point.Point.{Point}
use Rattle.st_index.specs.declared.row.Row.{Row}
use Rattle.st_index.specs.declared.row_point.RowPoint.{RowPoint}
use Rattle.st_index.specs.declared.row_point.RowPoint.TheVariants.{Given, Keyed}
use Rattle.st_index.specs.declared.row_view.RowView.{RowView}
use Rattle.st_index.specs.KeyPoints.{point_of_key}
use Rattle.st_index.specs.Notes.{lent_bytes}

-- the point that is given, or that its key tells
abbrev pub point_in : RowPoint → Point
point_in (Given point) = point
point_in (Keyed key) = point_of_key key.period key.bin key.address

-- the row of a view's parts
abbrev pub row_of_view : {A : Type 0} → RowView A → Row A
row_of_view v = record { id = v.id.now; point = point_in v.point; label = v.label.now; note = lent_bytes v.note }
