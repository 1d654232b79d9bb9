use Rattle.std.proofs.Common.{◌≡◌, take}
use Rattle.st_dir.proofs.users.copies.Given as goal

-- those that have come are there
abbrev pub invariant-loop-user : goal.invariant-loop-user
invariant-loop-user g l = l.copies.items ≡ take l.user-index l.users
