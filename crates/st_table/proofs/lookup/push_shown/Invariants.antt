use Rattle.std.proofs.Common.{◌≡◌, ◌++◌, length, map, filter}
use Rattle.st_index.specs.RowViews.{row_of_view}
use Rattle.st_index.specs.inner.Views.{viewed}
use Rattle.st_table.specs.inner.Found.{is_shown_of}
use Rattle.st_table.proofs.lookup.push_shown.Given as goal

abbrev pub invariant-rows : goal.invariant-rows
invariant-rows g l =
    map row_of_view l.rows.items ++ filter (is_shown_of l.id l.auths) (viewed l.left)
    ≡ map row_of_view l.initial.rows.items ++ filter (is_shown_of l.id l.auths) (viewed l.more)

abbrev pub decreases-rows : goal.decreases-rows
decreases-rows g l = length (viewed l.left)
