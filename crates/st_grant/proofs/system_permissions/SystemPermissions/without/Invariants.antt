use Rattle.std.proofs.Common.{◌≡◌, ◌≤◌, filter, not, length, take}
use Rattle.st_grant.specs.Permissions.{same_permission}
use Rattle.st_grant.proofs.system_permissions.SystemPermissions.without.Given as goal

-- those that have come and are not the one are there
abbrev pub invariant-loop-held : goal.invariant-loop-held
invariant-loop-held l =
    (l.permissions.items ≡ filter (λ held. not (same_permission l.permission held)) (take l.held-index l.held-items))
    × (length l.permissions.items ≤ l.held-index)
