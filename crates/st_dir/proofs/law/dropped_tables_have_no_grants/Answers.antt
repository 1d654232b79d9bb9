use Rattle.st_text.specs.Texts.{same}
use Rattle.st_grant.specs.Grants.{same_grant, same_scope}
use Rattle.st_grant.specs.Permissions.{same_permission}
use Rattle.st_grant.specs.declared.grant.Scope.TheVariants.{OnTable}
use Rattle.st_grant.specs.inner.Keys.{and_second}
use Rattle.st_dir.proofs.Keys.{none_left}
use Rattle.st_dir.proofs.law.dropped_tables_have_no_grants.Goals as goal

pub returns : goal.returns
returns g c d table user p =
    none_left (same_grant (record { user = user; scope = OnTable table; permission = p })) (λ h. same_scope (OnTable table) h.scope)
    (λ h e. and_second (same user h.user) (same_scope (OnTable table) h.scope) (same_permission p h.permission) e)
    d.grants
