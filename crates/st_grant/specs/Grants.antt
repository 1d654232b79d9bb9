-- Grants: to whom a table permission is given, and on what.
use Rattle.std.specs.Prelude.{Bool, false, ◌&&◌, List, ◌∷◌, map, if◌then◌else◌}
use Rattle.std.specs.List.{fold, list_any}
use Rattle.st_text.specs.Texts.{Text, same, in_order}
use Rattle.st_grant.specs.Order.{grant_key}
use Rattle.st_grant.specs.Permissions.{same_permission, table_permissions}
use Rattle.st_grant.specs.declared.grant.Grant.{Grant}
use Rattle.st_grant.specs.declared.grant.Scope.{Scope}
use Rattle.st_grant.specs.declared.grant.Scope.TheVariants.{OnTable, OnNamespace}
use Rattle.st_grant.specs.declared.permission.Permission.{Permission}

-- the grant of a permission to a user, on a scope
abbrev pub grant_of : Text → Scope → Permission → Grant
grant_of user scope p = record { user = user; scope = scope; permission = p }

abbrev pub same_scope : Scope → Scope → Bool
same_scope (OnTable t) (OnTable s) = same t s
same_scope (OnNamespace t) (OnNamespace s) = same t s
same_scope _ _ = false

abbrev pub same_grant : Grant → Grant → Bool
same_grant g h = same g.user h.user && same_scope g.scope h.scope && same_permission g.permission h.permission

-- the user has each table permission there
abbrev pub all_on : Text → Scope → List Grant
all_on user scope = map (λ p. grant_of user scope p) table_permissions

-- with the grant among them; nothing changes if it is held already
abbrev pub with_grant : Grant → List Grant → List Grant
with_grant g grants = if list_any (same_grant g) grants then grants else in_order grant_key (g ∷ grants)

-- with each table permission for the user on the scope
abbrev pub with_all : (user : Text) → (scope : Scope) → List Grant → List Grant
with_all user scope grants = fold (λ held p. with_grant (grant_of user scope p) held) grants table_permissions
