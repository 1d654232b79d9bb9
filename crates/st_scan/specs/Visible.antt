-- What a scan shows.
use Rattle.std.specs.Prelude.{List, Bool, ◌&&◌, filter}
use Rattle.st_text.specs.Texts.{Text, is_among}
use Rattle.st_label.specs.Reading.{is_true}
use Rattle.st_box.specs.declared.query.Query.{Query}
use Rattle.st_box.specs.Query.{is_inside}
use Rattle.st_index.specs.declared.row.Row.{Row}

-- whether the row's label is true for the authorizations
abbrev pub is_visible : {A : Type 0} → List Text → Row A → Bool
is_visible auths row = is_true (is_among auths) row.label

-- and its point is inside the query
abbrev pub is_visible_inside : {A : Type 0} → Query → List Text → Row A → Bool
is_visible_inside q auths row = is_inside q row.point && is_true (is_among auths) row.label

-- the rows of the content that are inside the query and whose label is true for the authorizations, in scan order
abbrev pub visible_rows : {A : Type 0} → Query → List Text → List (Row A) → List (Row A)
visible_rows q auths content = filter (is_visible_inside q auths) content
