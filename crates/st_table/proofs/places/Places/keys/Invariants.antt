use Rattle.std.proofs.Common.{◌-◌, ◌^◌, ◌≤◌}
use Rattle.st_table.specs.inner.Places.{AddsNoKeys, KeepsKeys}
use Rattle.st_table.proofs.places.Places.keys.Given as goal

abbrev pub invariant-places : goal.invariant-places
invariant-places g l =
    (l.from ≤ 2 ^ 96) × KeepsKeys l.self.numbers l.keys.numbers l.hash l.from × AddsNoKeys l.self.numbers l.keys.numbers l.hash

abbrev pub decreases-places : goal.decreases-places
decreases-places g l = 2 ^ 96 - l.from
