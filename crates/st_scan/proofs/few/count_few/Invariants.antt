use Rattle.std.proofs.Common.{◌≡◌, ◌-◌}
use Rattle.st_scan.specs.inner.Steps.{rank_or_end}
use Rattle.st_scan.proofs.Counting.{CountedIn}
use Rattle.st_scan.proofs.few.count_few.Given as goal

abbrev pub invariant-keys : goal.invariant-keys
invariant-keys g l = record {
  counted : CountedIn l.test.period (g.F.Fields.query l.fields) (g.J.Judge.judges l.initial.judge) (g.F.Fields.field_of l.fields)
      (g.I.RowIndex.content l.index) l.initial.counts (rank_or_end l.test.period l.from) l.counts;
  same : g.J.Judge.judges l.judge ≡ g.J.Judge.judges l.initial.judge;
}

abbrev pub decreases-keys : goal.decreases-keys
decreases-keys g l = 8 - l.ranges
