-- Fields that the box of a query is cut into, and how many rows each has.
use Rattle.std.specs.Prelude.{◌≡◌, ℕ, ◌+◌, ◌≤◌, ◌<◌, ◌^◌, Bool, ◌&&◌, List, count_by, get_or, nat_eq}
use Rattle.st_key.specs.declared.point.Point.{Point}
use Rattle.st_box.specs.declared.query.Query.{Query}
use Rattle.st_text.specs.Texts.{Text}
use Rattle.st_index.specs.declared.row.Row.{Row}
use Rattle.st_index.specs.inner.Counting.{is_counted}

-- the point's x and y are between these
abbrev pub IsBetween : (x0 x1 y0 y1 : ℕ) → Point → Type 0
IsBetween x0 x1 y0 y1 p = (x0 ≤ p.x) × (p.x ≤ x1) × (y0 ≤ p.y) × (p.y ≤ y1)

-- how many of the rows are inside the query, have a label that is found true, and are in the field
abbrev pub count_in : {A : Type 0} → Query → (Text → Bool) → (Point → ℕ) → ℕ → List (Row A) → ℕ
count_in q judges field_of field rows = count_by (λ row. is_counted q judges row && nat_eq (field_of row.point) field) rows

-- to the number of each field, as many were added as there are rows in it
abbrev pub Counts : {A : Type 0} → Query → (Text → Bool) → (Point → ℕ) → List (Row A) → (old new : List ℕ) → Type 0
Counts q judges field_of rows old new = (field : ℕ) → get_or new field 0 ≡ get_or old field 0 + count_in q judges field_of field rows

-- to each number, so many can be added
abbrev pub CanAdd : ℕ → List ℕ → Type 0
CanAdd more counts = (field : ℕ) → get_or counts field 0 + more < 2 ^ 64
