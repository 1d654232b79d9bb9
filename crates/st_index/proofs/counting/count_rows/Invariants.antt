use Rattle.std.proofs.Common.{◌≡◌, take}
use Rattle.st_index.specs.inner.Counting.{count_of}
use Rattle.st_index.proofs.counting.count_rows.Given as goal

abbrev pub invariant-loop-row : goal.invariant-loop-row
invariant-loop-row g l = record {
  count : l.count ≡ count_of l.query (g.J.Judge.judges l.initial.judge) (take l.row-index l.rows);
  same : g.J.Judge.judges l.judge ≡ g.J.Judge.judges l.initial.judge;
}
