-- The table of requests: what is in each line.
use Rattle.std.specs.Prelude.{Bool, true, false, List, [], ◌∷◌, Option, Some, None, codes, unwrap_or}
use Rattle.st_text.specs.Texts.{Text}
use Rattle.st_grant.specs.declared.permission.Permission.{Permission}
use Rattle.st_policy.specs.declared.request.Request.{Request}
use Rattle.st_policy.specs.declared.request.Request.TheVariants.{Whoami, Tables, Users, User, Grants, NamespaceGrants, Label, Audit}
use Rattle.st_policy.specs.declared.request.Request.TheVariants.{Get, Scan, Count, Grid, Plan, Put, Delete, CreateTable, DropTable}
use Rattle.st_policy.specs.declared.request.Request.TheVariants.{Constraint, Period, CreateUser, DropUser, Token, Auths, GrantSystem}
use Rattle.st_policy.specs.declared.request.Request.TheVariants.{RevokeSystem}
use Rattle.st_policy.specs.declared.request.Request.TheVariants.{GrantTable, RevokeTable, GrantNamespace, RevokeNamespace}

-- what a line needs
pub data Need : Type 0 where
  -- no permission
  Nothing : Need
  -- a permission on the table
  Table : (table : Text) → Permission → Need
  -- a permission on the system
  System : Permission → Need
  -- a permission on the table or on the system
  TableOrSystem : (table : Text) → Permission → Need
  -- a permission on the namespace or on the system
  NamespaceOrSystem : (namespace : Text) → Permission → Need
  -- to be the user, or a permission on the system
  OneselfOrSystem : (user : Text) → Permission → Need

-- A line of the table. The table and the user that it is about must be there, and a new name must be free.
pub record RequestInfo : Type 0 where
  -- by which the audit listing writes it
  pub name : Text
  pub is_a_change : Bool
  pub need : Need
  pub table : Option Text
  pub namespace : Option Text
  pub user : Option Text
  -- of the table or the user that it makes
  pub new_name : Option Text
  -- the authorizations that must be the asker's own
  pub auths : List Text

-- a read that names nothing, and a change
abbrev pub a_read : Text → Need → RequestInfo
a_read name need =
    record { name = name; is_a_change = false; need = need; table = None; namespace = None; user = None; new_name = None; auths = [] }

abbrev pub a_change : Text → Need → RequestInfo
a_change name need = record (a_read name need) { is_a_change = true }

abbrev pub info_of : {A : Type 0} → Request A → RequestInfo
info_of Whoami = a_read (codes "whoami") Nothing
info_of Tables = a_read (codes "tables") Nothing
info_of Users = a_read (codes "users") Nothing
info_of (User user) = record (a_read (codes "user") Nothing) { user = Some user }
info_of (Grants table) = record (a_read (codes "grants") Nothing) { table = Some table }
info_of (NamespaceGrants namespace) = record (a_read (codes "namespace-grants") Nothing) { namespace = Some namespace }
info_of (Label label) = a_read (codes "label") Nothing
info_of Audit = a_read (codes "audit") (System Permission.System)
info_of (Get table id auths) = record (a_read (codes "get") (Table table Permission.Read)) { table = Some table; auths = auths }
info_of (Scan table query auths limit after) =
    record (a_read (codes "scan") (Table table Permission.Read)) { table = Some table; auths = auths }
info_of (Count table query auths) = record (a_read (codes "count") (Table table Permission.Read)) { table = Some table; auths = auths }
info_of (Grid table query auths columns lines) =
    record (a_read (codes "grid") (Table table Permission.Read)) { table = Some table; auths = auths }
info_of (Plan table query budget) = record (a_read (codes "plan") (Table table Permission.Read)) { table = Some table }
info_of (Put table row) = record (a_change (codes "put") (Table table Permission.Write)) { table = Some table }
info_of (Delete table id label) = record (a_change (codes "delete") (Table table Permission.Write)) { table = Some table }
info_of (CreateTable table period) = record (a_change (codes "create-table") (System Permission.CreateTable)) { new_name = Some table }
info_of (DropTable table) = record (a_change (codes "drop-table") (TableOrSystem table Permission.DropTable)) { table = Some table }
info_of (Constraint table on) = record (a_change (codes "constraint") (TableOrSystem table Permission.AlterTable)) { table = Some table }
info_of (Period table period) = record (a_change (codes "period") (TableOrSystem table Permission.AlterTable)) { table = Some table }
info_of (CreateUser user digest auths) = record (a_change (codes "create-user") (System Permission.CreateUser)) { new_name = Some user }
info_of (DropUser user) = record (a_change (codes "drop-user") (System Permission.DropUser)) { user = Some user }
info_of (Token user digest) = record (a_change (codes "token") (OneselfOrSystem user Permission.AlterUser)) { user = Some user }
info_of (Auths user auths) = record (a_change (codes "auths") (System Permission.AlterUser)) { user = Some user }
info_of (GrantSystem user permission) = record (a_change (codes "grant-system") (System Permission.Grant)) { user = Some user }
info_of (RevokeSystem user permission) = record (a_change (codes "revoke-system") (System Permission.Grant)) { user = Some user }
info_of (GrantTable table user permission) =
    record (a_change (codes "grant-table") (TableOrSystem table Permission.Grant)) { table = Some table; user = Some user }
info_of (RevokeTable table user permission) =
    record (a_change (codes "revoke-table") (TableOrSystem table Permission.Grant)) { table = Some table; user = Some user }
info_of (GrantNamespace namespace user permission) =
    record (a_change (codes "grant-namespace") (NamespaceOrSystem namespace Permission.Grant)) {
      namespace = Some namespace;
      user = Some user;
    }
info_of (RevokeNamespace namespace user permission) =
    record (a_change (codes "revoke-namespace") (NamespaceOrSystem namespace Permission.Grant)) {
      namespace = Some namespace;
      user = Some user;
    }

-- ---- the columns

abbrev pub request_name : {A : Type 0} → Request A → Text
request_name request = (info_of request).name

abbrev pub is_change : {A : Type 0} → Request A → Bool
is_change request = (info_of request).is_a_change

abbrev pub need_of : {A : Type 0} → Request A → Need
need_of request = (info_of request).need

abbrev pub table_of : {A : Type 0} → Request A → Option Text
table_of request = (info_of request).table

abbrev pub namespace_named : {A : Type 0} → Request A → Option Text
namespace_named request = (info_of request).namespace

abbrev pub user_of : {A : Type 0} → Request A → Option Text
user_of request = (info_of request).user

abbrev pub named_auths : {A : Type 0} → Request A → List Text
named_auths request = (info_of request).auths

-- the first that is there
abbrev pub first_some : {X : Type 0} → List (Option X) → Option X
first_some [] = None
first_some (Some x ∷ others) = Some x
first_some (None ∷ others) = first_some others

-- what an audit entry names: the table, else the namespace, else the user that it is about, else the name that it makes
abbrev pub target_of : {A : Type 0} → Request A → Text
target_of request =
    unwrap_or (first_some (table_of request ∷ namespace_named request ∷ user_of request ∷ (info_of request).new_name ∷ [])) []
