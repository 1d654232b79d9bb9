-- An invariant of a representation, which no reader has to believe: what the summary of a node says of the rows below it.
use Rattle.std.specs.Prelude.{◌≡◌, ℕ, ◌+◌, ◌≤◌, Bool, ◌&&◌, true, nat_le, cond, List, IsTrue, count_by}
use Rattle.std.specs.List.{All, sum_by}
use Rattle.st_key.specs.declared.point.Point.{Point}
use Rattle.st_box.specs.declared.query.Query.{Query}
use Rattle.st_box.specs.Query.{is_inside}
use Rattle.st_text.specs.Texts.{Text}
use Rattle.st_index.specs.declared.row.Row.{Row}
use Rattle.st_tally.specs.declared.bounds.Bounds.{Bounds}
use Rattle.st_tally.specs.declared.label_counts.LabelCount.{LabelCount}
use Rattle.st_tally.specs.declared.label_counts.LabelCounts.{LabelCounts}
use Rattle.st_tally.specs.declared.summary.Summary.{Summary}

-- the point is between the bounds
pub record IsWithin (b : Bounds) (p : Point) : Type 0 where
  pub x_from : b.x0 ≤ p.x
  pub x_to : p.x ≤ b.x1
  pub y_from : b.y0 ≤ p.y
  pub y_to : p.y ≤ b.y1
  pub t_from : b.t0 ≤ p.t
  pub t_to : p.t ≤ b.t1

-- whether the bounds and the query have a point in common
abbrev pub meets : Bounds → Query → Bool
meets b q = nat_le b.x0 q.x1 && nat_le q.x0 b.x1 && nat_le b.y0 q.y1 && nat_le q.y0 b.y1 && nat_le b.t0 q.t1 && nat_le q.t0 b.t1

-- whether each point between the bounds is inside the query
abbrev pub lies_in : Bounds → Query → Bool
lies_in b q = nat_le q.x0 b.x0 && nat_le b.x1 q.x1 && nat_le q.y0 b.y0 && nat_le b.y1 q.y1 && nat_le q.t0 b.t0 && nat_le b.t1 q.t1

-- the rows of a label, where it is found true
abbrev pub found : {A : Type 0} → (Text → Bool) → LabelCount A → ℕ
found judges c = cond (judges c.label) c.rows 0

-- the rows of all labels that are found true
abbrev pub total : {A : Type 0} → (Text → Bool) → List (LabelCount A) → ℕ
total judges counts = sum_by (found judges) counts

-- how many of the rows have a label that is found true
abbrev pub labelled : {A : Type 0} → (Text → Bool) → List (Row A) → ℕ
labelled judges rows = count_by (λ row. judges row.label) rows

-- each row is inside the query
abbrev pub AreInside : {A : Type 0} → Query → List (Row A) → Type 0
AreInside {A} q rows = All (λ (r : Row A). is_inside q r.point ≡ true) rows

-- where the labels are all counted still, they were, and there are so many rows more under those that are found true
abbrev pub CountsMore : {A : Type 0} → (old new : LabelCounts A) → ((Text → Bool) → ℕ) → Type 0
CountsMore old new more = IsTrue new.are_all
    → IsTrue old.are_all × ((judges : Text → Bool) → total judges new.counts.items ≡ total judges old.counts.items + more judges)

-- and so many less
abbrev pub CountsLess : {A : Type 0} → (old new : LabelCounts A) → ((Text → Bool) → ℕ) → Type 0
CountsLess old new less = IsTrue new.are_all
    → IsTrue old.are_all × ((judges : Text → Bool) → total judges new.counts.items + less judges ≡ total judges old.counts.items)

-- the rows lie between the bounds, and where the labels are all counted, any judgement of labels finds as many rows by their
-- numbers as by the rows
pub record Sums {A : Type 0} (s : Summary A) (rows : List (Row A)) : Type 0 where
  pub within : All (λ (r : Row A). IsWithin s.bounds r.point) rows
  pub counted : IsTrue s.labels.are_all → (judges : Text → Bool) → total judges s.labels.counts.items ≡ labelled judges rows
