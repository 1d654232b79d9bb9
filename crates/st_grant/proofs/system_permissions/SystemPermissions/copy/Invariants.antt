use Rattle.std.proofs.Common.{◌≡◌, take}
use Rattle.st_grant.proofs.system_permissions.SystemPermissions.copy.Given as goal

-- those that have come are there
abbrev pub invariant-loop-held : goal.invariant-loop-held
invariant-loop-held l = l.permissions.items ≡ take l.held-index l.held-items
