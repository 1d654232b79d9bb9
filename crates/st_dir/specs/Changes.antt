-- How changes change the directory: what is added is put in its place, what is removed is taken out, and all else stays.
use Rattle.std.specs.Prelude.{ℕ, List, [], ◌∷◌, map, filter, Bool, false, not, if◌then◌else◌}
use Rattle.st_key.specs.declared.period.Period.{Period}
use Rattle.st_text.specs.Texts.{Text, same, in_order}
use Rattle.st_dir.specs.Directory.{Directory}
use Rattle.st_grant.specs.Grants.{grant_of, same_grant, same_scope, with_all, with_grant}
use Rattle.st_dir.specs.Order.{user_key, table_key}
use Rattle.st_grant.specs.Permissions.{same_permission, listed}
use Rattle.st_grant.specs.declared.grant.Scope.{Scope}
use Rattle.st_grant.specs.declared.grant.Scope.TheVariants.{OnTable}
use Rattle.st_grant.specs.declared.permission.Permission.{Permission}
use Rattle.st_dir.specs.declared.table.TableInfo.{TableInfo}
use Rattle.st_dir.specs.declared.user.User.{User}

-- ---- users

-- a user without permissions
abbrev pub user_added : {A : Type 0} → (name : Text) → (digest : List ℕ) → (auths : List Text) → Directory A → Directory A
user_added name digest auths d =
    record d { users = in_order user_key (record { name = name; digest = digest; auths = auths; permissions = [] } ∷ d.users) }

-- every grant to the user goes too
abbrev pub user_dropped : {A : Type 0} → (name : Text) → Directory A → Directory A
user_dropped name d = record d {
  users = filter (λ user. not (same user.name name)) d.users;
  grants = filter (λ g. not (same g.user name)) d.grants;
}

-- the user of this name is changed, no other
abbrev pub with_user : {A : Type 0} → (name : Text) → (User A → User A) → List (User A) → List (User A)
with_user name change users = map (λ user. if same user.name name then change user else user) users

abbrev pub digest_set : {A : Type 0} → (name : Text) → (digest : List ℕ) → Directory A → Directory A
digest_set name digest d = record d { users = with_user name (λ user. record user { digest = digest }) d.users }

abbrev pub auths_set : {A : Type 0} → (name : Text) → (auths : List Text) → Directory A → Directory A
auths_set name auths d = record d { users = with_user name (λ user. record user { auths = auths }) d.users }

abbrev pub system_granted : {A : Type 0} → (name : Text) → (p : Permission) → Directory A → Directory A
system_granted name p d = record d { users = with_user name (λ user. record user { permissions = listed (p ∷ user.permissions) }) d.users }

abbrev pub system_revoked : {A : Type 0} → (name : Text) → (p : Permission) → Directory A → Directory A
system_revoked name p d =
    record d {
      users = with_user name (λ user. record user { permissions = filter (λ q. not (same_permission p q)) user.permissions }) d.users;
    }

-- ---- grants on tables and namespaces

abbrev pub granted : {A : Type 0} → (user : Text) → (scope : Scope) → (p : Permission) → Directory A → Directory A
granted user scope p d = record d { grants = with_grant (grant_of user scope p) d.grants }

-- revoking what is not held changes nothing
abbrev pub revoked : {A : Type 0} → (user : Text) → (scope : Scope) → (p : Permission) → Directory A → Directory A
revoked user scope p d = record d { grants = filter (λ g. not (same_grant (grant_of user scope p) g)) d.grants }

-- ---- tables

-- a table without a constraint, on which its creator has each table permission
abbrev pub table_added : {A : Type 0} → (table : Text) → (creator : Text) → (period : Period) → Directory A → Directory A
table_added table creator period d = record d {
  tables = in_order table_key (record { table = table; constraint = false; period = period } ∷ d.tables);
  grants = with_all creator (OnTable table) d.grants;
}

-- every grant on the table goes too; those on its namespace stay
abbrev pub table_dropped : {A : Type 0} → (table : Text) → Directory A → Directory A
table_dropped table d = record d {
  tables = filter (λ info. not (same info.table table)) d.tables;
  grants = filter (λ g. not (same_scope (OnTable table) g.scope)) d.grants;
}

-- the table of this name is changed, no other
abbrev pub with_table : (table : Text) → (TableInfo → TableInfo) → List TableInfo → List TableInfo
with_table table change tables = map (λ info. if same info.table table then change info else info) tables

abbrev pub constraint_set : {A : Type 0} → (table : Text) → (on : Bool) → Directory A → Directory A
constraint_set table on d = record d { tables = with_table table (λ info. record info { constraint = on }) d.tables }

abbrev pub period_set : {A : Type 0} → (table : Text) → (period : Period) → Directory A → Directory A
period_set table period d = record d { tables = with_table table (λ info. record info { period = period }) d.tables }
