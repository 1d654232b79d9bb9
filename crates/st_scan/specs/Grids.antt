-- Grids of a scan.
use Rattle.std.specs.Prelude.{ℕ, ◌+◌, ◌-◌, ◌*◌, ◌/◌, List, map, count_by, nat_eq}
use Rattle.std.specs.List.{range_with_len}
use Rattle.st_key.specs.declared.point.Point.{Point}
use Rattle.st_box.specs.declared.query.Query.{Query}
use Rattle.st_index.specs.declared.row.Row.{Row}

-- the column of a point inside the query, and its line: the query's box is cut into nx columns and ny lines
abbrev pub column_of : Query → ℕ → Point → ℕ
column_of q nx p = (p.x - q.x0) * nx / (q.x1 - q.x0 + 1)

abbrev pub line_of : Query → ℕ → Point → ℕ
line_of q ny p = (p.y - q.y0) * ny / (q.y1 - q.y0 + 1)

-- the number of the field of the grid that the point is in, line by line
unfoldable pub field_of : Query → ℕ → ℕ → Point → ℕ
field_of q nx ny p = line_of q ny p * nx + column_of q nx p

-- for each field the number of the rows in it
abbrev pub grid_of : {A : Type 0} → Query → ℕ → ℕ → List (Row A) → List ℕ
grid_of q nx ny rows = map (λ field. count_by (λ row. nat_eq (field_of q nx ny row.point) field) rows) (range_with_len 0 (nx * ny))
