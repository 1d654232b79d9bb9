use Rattle.std.proofs.Common.{◌≡◌, map, take}
use Rattle.st_dir.proofs.users.names_of.Given as goal

-- the names that have come are there
abbrev pub invariant-loop-user : goal.invariant-loop-user
invariant-loop-user g l = l.names ≡ map (λ user. user.name) (take l.user-index l.users)
