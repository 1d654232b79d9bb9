use Rattle.std.proofs.Common.{◌≡◌, ◌-◌, ◌≤◌, ◌^◌}
use Rattle.std.specs.List.{All}
use Rattle.st_index.specs.declared.row.Row.{Row}
use Rattle.st_index.specs.inner.Entries.{name_of, rank_of}
use Rattle.st_table.proofs.lookup.find.Given as goal

abbrev pub invariant-keys : goal.invariant-keys
invariant-keys g l =
    (l.from ≤ 2 ^ 81)
    × All (λ (r : Row g.row.I-Alloc.Denot). name_of r ≡ record { id = l.id; label = l.label } → l.from ≤ rank_of (g.I.RowIndex.period_of l.index) r) (g.I.RowIndex.content l.index)

abbrev pub decreases-keys : goal.decreases-keys
decreases-keys g l = 2 ^ 81 - l.from
