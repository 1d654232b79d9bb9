use Rattle.std.proofs.Common.{◌≡◌, length}
use Rattle.st_table.proofs.Rebuilding.{Puts}
use Rattle.st_table.proofs.moving.put_all.Given as goal

abbrev pub invariant-rows : goal.invariant-rows
invariant-rows g l = (l.table.period ≡ l.initial.table.period) × Puts l.initial.table.period l.initial.walk.left l.table.rows l.walk.left

abbrev pub decreases-rows : goal.decreases-rows
decreases-rows g l = length l.walk.left
