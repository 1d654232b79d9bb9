use Rattle.st_tally.specs.inner.Marks.{Keeps}
use Rattle.st_tally.proofs.Marking.{AreMarksTo}
use Rattle.st_tally.proofs.page_marks.mark_page.Given as goal

abbrev pub invariant-loop-at : goal.invariant-loop-at
invariant-loop-at g l = record {
  keeps : Keeps l.initial.labels.items l.labels.items;
  marks : AreMarksTo l.at l.labels.items l.entries l.page;
}
