use Rattle.std.proofs.Common.{◌≡◌, take}
use Rattle.st_grant.proofs.grants.copies.Given as goal

-- those that have come are there
abbrev pub invariant-loop-grant : goal.invariant-loop-grant
invariant-loop-grant g l = l.copies.items ≡ take l.grant-index l.grants
