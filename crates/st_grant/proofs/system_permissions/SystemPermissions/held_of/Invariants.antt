use Rattle.std.proofs.Common.{◌≡◌, filter, take}
use Rattle.std.specs.List.{list_any}
use Rattle.st_grant.specs.Permissions.{same_permission}
use Rattle.st_grant.proofs.system_permissions.SystemPermissions.held_of.Given as goal

-- those that have come and are held are there
abbrev pub invariant-loop-permission : goal.invariant-loop-permission
invariant-loop-permission g l = l.list ≡ filter (λ p. list_any (same_permission p) l.self) (take l.permission-index l.all)
