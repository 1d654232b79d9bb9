use Rattle.std.proofs.Common.{◌≡◌, take}
use Rattle.st_core.proofs.store.tables.copies.Given as goal

abbrev pub invariant-loop-shelf : goal.invariant-loop-shelf
invariant-loop-shelf g l = l.copies.items ≡ take l.shelf-index l.shelves
