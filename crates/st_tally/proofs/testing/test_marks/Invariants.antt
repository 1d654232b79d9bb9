use Rattle.std.proofs.Common.{◌≡◌, ℕ, ◌<◌, false, get_or, length}
use Rattle.st_box.specs.declared.query.Query.{Query as QueryValue}
use Rattle.st_tally.specs.inner.Marks.{IsTested}
use Rattle.st_tally.specs.inner.Spots.{IsBoxOf}
use Rattle.st_tally.proofs.testing.test_marks.Given as goal

abbrev pub invariant-loop-at : goal.invariant-loop-at
invariant-loop-at l = record {
  long : length l.tested ≡ 32;
  is_tested : (query : QueryValue) (i : ℕ) → IsBoxOf query l.marks.week l.bounds → i < l.at → IsTested query l.marks i (get_or l.tested i false);
}
