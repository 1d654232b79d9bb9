use Rattle.std.proofs.Common.{◌≡◌, ◌++◌}
use Rattle.st_core.proofs.store.audit.listing.Given as goal

abbrev pub invariant-loop-entry : goal.invariant-loop-entry
invariant-loop-entry g l = l.listed ++ l.entry-iterator ≡ l.fn.entries.items
