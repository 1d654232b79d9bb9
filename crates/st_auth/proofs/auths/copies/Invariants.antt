use Rattle.std.proofs.Common.{◌≡◌, map, take}
use Rattle.st_auth.proofs.auths.copies.Given as goal

-- the names so far
abbrev pub invariant-loop-name : goal.invariant-loop-name
invariant-loop-name g l = l.list.items ≡ map (λ name. name.now) (take l.name-index l.names)
