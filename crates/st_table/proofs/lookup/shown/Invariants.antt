use Rattle.std.proofs.Common.{◌≡◌, ◌-◌, ◌≤◌, ◌^◌, ◌&&◌, map, filter, nat_lt}
use Rattle.st_index.specs.declared.row.Row.{Row}
use Rattle.st_index.specs.RowViews.{row_of_view}
use Rattle.st_index.specs.inner.Entries.{rank_of}
use Rattle.st_table.specs.inner.Found.{is_shown_of}
use Rattle.st_table.proofs.lookup.shown.Given as goal

abbrev pub invariant-ranks : goal.invariant-ranks
invariant-ranks g l =
    (l.low ≤ 2 ^ 81)
    × (map row_of_view l.rows.items
    ≡ filter (λ (r : Row g.row.I-Alloc.Denot). is_shown_of l.id l.auths r && nat_lt (rank_of (g.I.RowIndex.period_of l.index) r) l.low) (g.I.RowIndex.content l.index))

abbrev pub decreases-ranks : goal.decreases-ranks
decreases-ranks g l = 2 ^ 81 - l.low
