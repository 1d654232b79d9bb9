use Rattle.std.proofs.Common.{◌≡◌, drop}
use Rattle.std.specs.List.{list_any}
use Rattle.st_grant.specs.Permissions.{same_permission}
use Rattle.st_grant.proofs.system_permissions.has_permission.Given as goal

-- it is among them if it is among those that are left
abbrev pub invariant-loop-held : goal.invariant-loop-held
invariant-loop-held l =
    list_any (same_permission l.permission) (drop l.held-index l.permissions) ≡ list_any (same_permission l.permission) l.permissions
