use Rattle.std.proofs.Common.{◌≡◌, take}
use Rattle.st_auth.proofs.auths.Auths.copy_in.Given as goal

-- the names so far
abbrev pub invariant-loop-name : goal.invariant-loop-name
invariant-loop-name g l = l.names.items ≡ take l.name-index l.self-inside.names.items
