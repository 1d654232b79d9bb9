use Rattle.std.proofs.Common.{length}
use Rattle.st_scan.proofs.Entries.{Passed}
use Rattle.st_scan.proofs.step.next_entry.Given as goal

abbrev pub invariant-loop-entry : goal.invariant-loop-entry
invariant-loop-entry g l = Passed l.test.query l.entries l.ahead

abbrev pub decreases-loop-entry : goal.decreases-loop-entry
decreases-loop-entry g l = length l.ahead
