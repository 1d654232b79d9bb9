use Rattle.std.proofs.Common.{length}
use Rattle.st_journal_compact.specs.inner.Stages.{Past}
use Rattle.st_journal_compact.proofs.short_list.shorten.Given as goal

abbrev pub invariant-loop-it : goal.invariant-loop-it
invariant-loop-it l = record { past : Past l.initial.changes.items l.changes.items l.sieve }

abbrev pub decreases-loop-it : goal.decreases-loop-it
decreases-loop-it l = length l.changes.items
