-- What the directory lists.
use Rattle.std.specs.Prelude.{List, map, filter, Option, option_map}
use Rattle.st_text.specs.Texts.{Text, in_order, set_of}
use Rattle.st_dir.specs.Directory.{Directory, user_named, is_granted}
use Rattle.st_grant.specs.Grants.{same_scope}
use Rattle.st_dir.specs.Order.{user_key, table_key}
use Rattle.st_grant.specs.Permissions.{listed, table_permissions}
use Rattle.st_dir.specs.declared.account.Account.{Account}
use Rattle.st_dir.specs.declared.grantee.Grantee.{Grantee}
use Rattle.st_grant.specs.declared.grant.Scope.{Scope}
use Rattle.st_grant.specs.declared.permission.Permission.{Permission}
use Rattle.st_dir.specs.declared.table.TableInfo.{TableInfo}

-- a user's account: the authorizations in byte order, each once, and the system permissions in listing order
abbrev pub who : {A : Type 0} → Directory A → Text → Option (Account A)
who d name =
    option_map (λ user. record { user = user.name; auths = set_of user.auths; permissions = listed user.permissions }) (user_named d name)

-- the names of the users, in byte order
abbrev pub users_of : {A : Type 0} → Directory A → List Text
users_of d = map (λ user. user.name) (in_order user_key d.users)

-- the tables, in byte order of their names
abbrev pub tables_of : {A : Type 0} → Directory A → List TableInfo
tables_of d = in_order table_key d.tables

-- the table permissions that a user has been granted on the scope itself, in listing order
abbrev pub held_on : {A : Type 0} → Directory A → Scope → Text → List Permission
held_on d scope user = filter (λ p. is_granted d user scope p) table_permissions

-- the users who have been granted something on the scope itself, in byte order, each once
abbrev pub granted_on : {A : Type 0} → Directory A → Scope → List Text
granted_on d scope = set_of (map (λ g. g.user) (filter (λ g. same_scope scope g.scope) d.grants))

-- each of them with what it has been granted
abbrev pub grants_on : {A : Type 0} → Directory A → Scope → List (Grantee A)
grants_on d scope = map (λ user. record { user = user; permissions = held_on d scope user }) (granted_on d scope)
