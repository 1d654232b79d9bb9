use Rattle.std.proofs.Common.{◌&&◌}
use Rattle.st_text.specs.Texts.{same}
use Rattle.st_grant.specs.Grants.{same_grant, same_scope}
use Rattle.st_grant.specs.Permissions.{same_permission}
use Rattle.st_dir.proofs.Keys.{none_left, and_first, same_sym}
use Rattle.st_dir.proofs.law.dropped_users_hold_nothing.Goals as goal

pub returns : goal.returns
returns g c d user scope p =
    none_left (same_grant (record { user = user; scope = scope; permission = p })) (λ h. same h.user user)
    (λ h e. same_sym user h.user (and_first (same user h.user) (same_scope scope h.scope) (and_first (same user h.user && same_scope scope h.scope) (same_permission p h.permission) e)))
    d.grants
