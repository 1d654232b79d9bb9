use Rattle.std.proofs.Common.{◌≡◌, take}
use Rattle.st_dir.proofs.tables.copies.Given as goal

-- those that have come are there
abbrev pub invariant-loop-info : goal.invariant-loop-info
invariant-loop-info g l = l.copies.items ≡ take l.info-index l.tables
