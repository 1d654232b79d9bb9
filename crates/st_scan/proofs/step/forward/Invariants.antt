use Rattle.std.proofs.Common.{◌≡◌, ◌-◌}
use Rattle.st_index.specs.inner.Entries.{key_end}
use Rattle.st_scan.specs.inner.Steps.{IsPosition, left_of, rank_or_end}
use Rattle.st_scan.proofs.step.forward.Given as goal

abbrev pub invariant-regions : goal.invariant-regions
invariant-regions g l = record {
  at : IsPosition l.test.period l.test.query (g.I.RowIndex.regions l.index) l.at;
  start : l.at.start ≡ l.fn.at.start;
  left : left_of l.test.period l.test.query (g.I.RowIndex.content l.index) l.at ≡ left_of l.test.period l.test.query (g.I.RowIndex.content l.index) l.fn.at;
}

abbrev pub decreases-regions : goal.decreases-regions
decreases-regions g l = key_end l.test.period - rank_or_end l.test.period l.at.next
