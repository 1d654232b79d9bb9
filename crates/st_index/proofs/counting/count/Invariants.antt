use Rattle.std.proofs.Common.{◌≡◌, take}
use Rattle.std.specs.List.{sum_by}
use Rattle.st_index.specs.inner.Counting.{count_of}
use Rattle.st_index.specs.inner.Entries.{EntryValue}
use Rattle.st_index.proofs.counting.count.Given as goal

abbrev pub invariant-loop-entry : goal.invariant-loop-entry
invariant-loop-entry g l = record {
  count : l.count ≡ sum_by (λ (e : EntryValue g.row.A.Denot). count_of l.query (g.J.Judge.judges l.initial.judge) e.rows) (take l.entry-index l.entries);
  same : g.J.Judge.judges l.judge ≡ g.J.Judge.judges l.initial.judge;
}
