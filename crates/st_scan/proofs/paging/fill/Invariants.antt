use Rattle.std.proofs.Common.{◌≡◌, length, filter, map}
use Rattle.std.specs.Option.{option_copied}
use Rattle.st_index.specs.RowViews.{row_of_view}
use Rattle.st_scan.specs.inner.Starts.{is_shown}
use Rattle.st_scan.proofs.Filling.{Fills}
use Rattle.st_scan.proofs.paging.fill.Given as goal

abbrev pub invariant-rows : goal.invariant-rows
invariant-rows g l = record {
  fills : Fills (is_shown l.period (option_copied l.after) l.initial.verdicts) l.limit (map row_of_view l.rows.items) l.walk.left
      (filter (is_shown l.period (option_copied l.after) l.initial.verdicts) l.initial.walk.left);
  set : l.verdicts ≡ l.initial.verdicts;
}

abbrev pub decreases-rows : goal.decreases-rows
decreases-rows g l = length l.walk.left
