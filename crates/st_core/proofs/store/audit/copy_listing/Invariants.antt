use Rattle.std.proofs.Common.{◌≡◌, ◌++◌, ◌≤◌, length}
use Rattle.st_core.proofs.store.audit.copy_listing.Given as goal

abbrev pub invariant-loop-entry : goal.invariant-loop-entry
invariant-loop-entry g l = record {
  items : l.copies.items ++ l.entry-iterator ≡ l.fn.entries.items;
  capacity : l.copies.capacity ≡ l.fn.entries.capacity;
  room : length l.fn.entries.items ≤ l.fn.entries.capacity;
}
