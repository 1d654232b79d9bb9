use Rattle.std.proofs.Common.{◌≡◌, ◌≤◌, ◌∷◌, filter, length, take}
use Rattle.std.specs.List.{list_any}
use Rattle.st_grant.specs.Permissions.{same_permission}
use Rattle.st_grant.proofs.system_permissions.SystemPermissions.among.Given as goal

-- those that have come and are among the ones wanted are there
abbrev pub invariant-loop-next : goal.invariant-loop-next
invariant-loop-next l =
    (l.permissions.items ≡ filter (λ next. list_any (same_permission next) (l.permission ∷ l.self)) (take l.next-index l.all))
    × (length l.permissions.items ≤ l.next-index)
