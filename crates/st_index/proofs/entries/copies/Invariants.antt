use Rattle.std.proofs.Common.{◌≡◌, ◌≤◌, take, vec_capacity}
use Rattle.st_index.proofs.entries.copies.Given as goal

abbrev pub invariant-loop-entry : goal.invariant-loop-entry
invariant-loop-entry g l = record {
  items : l.copies.items ≡ take l.entry-index l.entries;
  room : l.room ≤ vec_capacity l.copies;
}
