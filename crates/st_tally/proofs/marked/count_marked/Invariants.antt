use Rattle.std.proofs.Common.{◌≡◌, ◌+◌, ◌≤◌, List, length, take}
use Rattle.std.specs.List.{sum, sum_by}
use Rattle.st_text.specs.Texts.{Text}
use Rattle.st_index.specs.inner.Counting.{count_of}
use Rattle.st_index.specs.inner.Entries.{EntryValue}
use Rattle.st_tally.specs.inner.Marks.{AreMarks, MakeUp}
use Rattle.st_tally.proofs.marked.count_marked.Given as goal

abbrev pub invariant-loop-at : goal.invariant-loop-at
invariant-loop-at g l = record {
  count : (labels : List Text) → AreMarks labels l.entries l.marks → MakeUp (g.J.Judge.judges l.initial.judge) labels l.count
      (sum_by (λ (e : EntryValue g.row.A.Denot). count_of l.query (g.J.Judge.judges l.initial.judge) e.rows) (take l.at l.entries)) l.initial.tally l.tally;
  most : sum l.tally ≤ sum l.initial.tally + sum_by (λ (e : EntryValue g.row.A.Denot). length e.rows) (take l.at l.entries);
  same : g.J.Judge.judges l.judge ≡ g.J.Judge.judges l.initial.judge;
}
