-- Permissions, by the names of Apache Accumulo.
use Rattle.std.specs.Prelude.{ℕ, Bool, nat_eq, List, [], ◌∷◌, codes, filter, find, map, Option}
use Rattle.std.specs.List.{list_any}
use Rattle.st_text.specs.Texts.{Text, same}
use Rattle.st_grant.specs.declared.permission.Permission.{Permission}
use Rattle.st_grant.specs.declared.system_permission.SystemPermission.{SystemPermission}
use Rattle.st_grant.specs.declared.table_permission.TablePermission.{TablePermission}

-- what may be granted on a table or a namespace is one of the permissions
abbrev pub table_permission : TablePermission → Permission
table_permission TablePermission.Read = Permission.Read
table_permission TablePermission.Write = Permission.Write
table_permission TablePermission.AlterTable = Permission.AlterTable
table_permission TablePermission.Grant = Permission.Grant
table_permission TablePermission.DropTable = Permission.DropTable

-- what may be granted on the system is one of the permissions
abbrev pub system_permission : SystemPermission → Permission
system_permission SystemPermission.CreateTable = Permission.CreateTable
system_permission SystemPermission.DropTable = Permission.DropTable
system_permission SystemPermission.AlterTable = Permission.AlterTable
system_permission SystemPermission.CreateUser = Permission.CreateUser
system_permission SystemPermission.DropUser = Permission.DropUser
system_permission SystemPermission.AlterUser = Permission.AlterUser
system_permission SystemPermission.Grant = Permission.Grant
system_permission SystemPermission.System = Permission.System

-- all that may be granted on a table or a namespace, in listing order
abbrev pub grantable_on_tables : List TablePermission
grantable_on_tables =
    TablePermission.Read ∷ TablePermission.Write ∷ TablePermission.AlterTable ∷ TablePermission.Grant ∷ TablePermission.DropTable ∷ []

-- all that may be granted on the system, in listing order
abbrev pub grantable_on_system : List SystemPermission
grantable_on_system =
    SystemPermission.CreateTable ∷ SystemPermission.DropTable ∷ SystemPermission.AlterTable ∷ SystemPermission.CreateUser
    ∷ SystemPermission.DropUser ∷ SystemPermission.AlterUser ∷ SystemPermission.Grant ∷ SystemPermission.System ∷ []

abbrev pub table_permissions : List Permission
table_permissions = map table_permission grantable_on_tables

abbrev pub system_permissions : List Permission
system_permissions = map system_permission grantable_on_system

-- each permission has a rank of its own, and a name in requests and replies
abbrev pub rank_and_name_of : Permission → ℕ × Text
rank_and_name_of Permission.Read = (0, codes "READ")
rank_and_name_of Permission.Write = (1, codes "WRITE")
rank_and_name_of Permission.AlterTable = (2, codes "ALTER_TABLE")
rank_and_name_of Permission.Grant = (3, codes "GRANT")
rank_and_name_of Permission.DropTable = (4, codes "DROP_TABLE")
rank_and_name_of Permission.CreateTable = (5, codes "CREATE_TABLE")
rank_and_name_of Permission.CreateUser = (6, codes "CREATE_USER")
rank_and_name_of Permission.DropUser = (7, codes "DROP_USER")
rank_and_name_of Permission.AlterUser = (8, codes "ALTER_USER")
rank_and_name_of Permission.System = (9, codes "SYSTEM")

abbrev pub place_of : Permission → ℕ
place_of p = (rank_and_name_of p).0

abbrev pub permission_name : Permission → Text
permission_name p = (rank_and_name_of p).1

abbrev pub same_permission : Permission → Permission → Bool
same_permission p q = nat_eq (place_of p) (place_of q)

-- the system permissions that are among these, in listing order, each once
abbrev pub listed : List Permission → List Permission
listed permissions = filter (λ p. list_any (same_permission p) permissions) system_permissions

-- the one of this name
abbrev pub table_permission_named : Text → Option TablePermission
table_permission_named name = find (λ p. same (permission_name (table_permission p)) name) grantable_on_tables

abbrev pub system_permission_named : Text → Option SystemPermission
system_permission_named name = find (λ p. same (permission_name (system_permission p)) name) grantable_on_system
