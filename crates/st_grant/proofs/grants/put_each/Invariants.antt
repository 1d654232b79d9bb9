use Rattle.std.proofs.Common.{◌≡◌, ◌+◌, ◌≤◌, length, take}
use Rattle.std.specs.List.{fold}
use Rattle.std.specs.Vec.{vec_len, vec_capacity}
use Rattle.st_grant.specs.Grants.{with_grant}
use Rattle.st_grant.specs.Order.{grant_key}
use Rattle.st_sorted.specs.Sorted.{Rises}
use Rattle.st_grant.proofs.grants.put_each.Given as goal

-- those that have come are granted, and there is room for the others
abbrev pub invariant-loop-permission : goal.invariant-loop-permission
invariant-loop-permission g l =
    (l.grants.items ≡ fold (λ held p. with_grant (record { user = l.user; scope = l.scope; permission = p }) held) l.initial.grants.items (take l.permission-index l.permissions))
    × Rises grant_key l.grants.items
    × (vec_len l.grants + length l.permissions ≤ vec_capacity l.grants + l.permission-index)
