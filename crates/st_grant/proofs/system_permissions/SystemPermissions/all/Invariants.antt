use Rattle.std.proofs.Common.{◌≡◌, take}
use Rattle.st_grant.specs.Permissions.{system_permissions}
use Rattle.st_grant.proofs.system_permissions.SystemPermissions.all.Given as goal

-- the permissions that have come are there
abbrev pub invariant-loop-permission : goal.invariant-loop-permission
invariant-loop-permission l = l.permissions.items ≡ take l.permission-index system_permissions
