use Rattle.std.proofs.Common.{◌≡◌, drop}
use Rattle.std.specs.List.{list_any}
use Rattle.st_plan.specs.Range.{is_exact_in}
use Rattle.st_scan.proofs.part_ranges.PartRanges.has_exact.Given as goal

-- an exact range holds the address if one of those that are left does
abbrev pub invariant-loop-range : goal.invariant-loop-range
invariant-loop-range l = list_any (is_exact_in l.address) (drop l.range-index l.self.ranges.now) ≡ list_any (is_exact_in l.address) l.self.ranges.now
