-- The users, the tables and the grants, and what they allow a user.
use Rattle.std.specs.Prelude.{ℕ, List, [], ◌∷◌, Bool, false, ◌||◌, Option, is_some, find, codes, option_map}
use Rattle.std.specs.List.{list_any}
use Rattle.std.specs.Option.{option_map_or}
use Rattle.st_key.specs.declared.period.Period.{Period}
use Rattle.st_text.specs.Texts.{Text, same, is_among}
use Rattle.st_text.specs.Names.{namespace_of}
use Rattle.st_grant.specs.Permissions.{same_permission, system_permissions}
use Rattle.st_grant.specs.Grants.{grant_of, same_grant, all_on}
use Rattle.st_grant.specs.declared.grant.Grant.{Grant}
use Rattle.st_grant.specs.declared.grant.Scope.{Scope}
use Rattle.st_grant.specs.declared.grant.Scope.TheVariants.{OnTable, OnNamespace}
use Rattle.st_grant.specs.declared.permission.Permission.{Permission}
use Rattle.st_dir.specs.declared.table.TableInfo.{TableInfo}
use Rattle.st_dir.specs.declared.user.User.{User}

pub record Directory (A : Type 0) : Type 0 where
  pub users : List (User A)
  pub tables : List TableInfo
  pub grants : List Grant

abbrev pub user_named : {A : Type 0} → Directory A → Text → Option (User A)
user_named d name = find (λ user. same user.name name) d.users

abbrev pub table_named : {A : Type 0} → Directory A → Text → Option TableInfo
table_named d name = find (λ info. same info.table name) d.tables

abbrev pub is_user : {A : Type 0} → Directory A → Text → Bool
is_user d name = is_some (user_named d name)

abbrev pub is_table : {A : Type 0} → Directory A → Text → Bool
is_table d name = is_some (table_named d name)

-- there is such a user, and this is the digest of the user's secret
abbrev pub has_digest : {A : Type 0} → Directory A → Text → List ℕ → Bool
has_digest d name digest = option_map_or (λ user. same user.digest digest) (user_named d name) false

-- the user's authorizations, none if there is no such user
abbrev pub auths_of : {A : Type 0} → Directory A → Text → List Text
auths_of d user = option_map_or (λ u. u.auths) (user_named d user) []

abbrev pub has_auth : {A : Type 0} → Directory A → Text → Text → Bool
has_auth d user auth = is_among (auths_of d user) auth

abbrev pub has_system : {A : Type 0} → Directory A → Text → Permission → Bool
has_system d user p = option_map_or (λ u. list_any (same_permission p) u.permissions) (user_named d user) false

-- the user has been granted the permission on the scope itself
abbrev pub is_granted : {A : Type 0} → Directory A → Text → Scope → Permission → Bool
is_granted d user scope p = list_any (same_grant (grant_of user scope p)) d.grants

-- a table permission is held by a grant on the table, or on its namespace
abbrev pub has_table : {A : Type 0} → Directory A → Text → Text → Permission → Bool
has_table d user table p =
    is_granted d user (OnTable table) p
    || option_map_or (λ namespace. is_granted d user (OnNamespace namespace) p) (namespace_of table) false

abbrev pub is_constrained : {A : Type 0} → Directory A → Text → Bool
is_constrained d table = option_map_or (λ info. info.constraint) (table_named d table) false

abbrev pub period_of : {A : Type 0} → Directory A → Text → Period
period_of d table = option_map_or (λ info. info.period) (table_named d table) Period.Week

-- the directory that a server begins with: the user root, who may do everything, and the table points
abbrev pub first_directory : {A : Type 0} → List ℕ → List Text → Directory A
first_directory digest auths = record {
  users = record { name = codes "root"; digest = digest; auths = auths; permissions = system_permissions } ∷ [];
  tables = record { table = codes "points"; constraint = false; period = Period.Week } ∷ [];
  grants = all_on (codes "root") (OnTable (codes "points"));
}
