use Rattle.std.proofs.Common.{◌≡◌, take}
use Rattle.st_auth.proofs.auths.Auths.is_same.Given as goal

-- the names so far are the same
abbrev pub invariant-loop-place : goal.invariant-loop-place
invariant-loop-place g l = take l.place l.self-inside.names.items ≡ take l.place l.other-inside.names.items
