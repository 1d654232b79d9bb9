-- What changes do to the rows and to the directory.
use Rattle.std.specs.Prelude.{List}
use Rattle.st_text.specs.Texts.{Text}
use Rattle.st_dir.specs.Directory.{Directory}
use Rattle.st_dir.specs.Changes.{table_added, table_dropped, constraint_set, period_set, user_added, user_dropped, digest_set, auths_set}
use Rattle.st_dir.specs.Changes.{system_granted, system_revoked, granted, revoked}
use Rattle.st_grant.specs.Permissions.{table_permission, system_permission}
use Rattle.st_grant.specs.declared.grant.Scope.TheVariants.{OnTable, OnNamespace}
use Rattle.st_policy.specs.declared.request.Request.{Request}
use Rattle.st_policy.specs.declared.request.Request.TheVariants.{Put, Delete, CreateTable, DropTable, Constraint}
use Rattle.st_policy.specs.declared.request.Request.TheVariants.{Period, CreateUser, DropUser, Token, Auths, GrantSystem, RevokeSystem}
use Rattle.st_policy.specs.declared.request.Request.TheVariants.{GrantTable, RevokeTable, GrantNamespace, RevokeNamespace}
use Rattle.st_table.specs.Rows.{Held, put_row, without_row, without_table}

-- ---- the rows

-- what each line does to the rows, all others nothing
abbrev pub rows_after : {A : Type 0} → Request A → List (Held A) → List (Held A)
rows_after (Put table row) rows = put_row (record { table = table; row = row }) rows
rows_after (Delete table id label) rows = without_row table id label rows
rows_after (DropTable table) rows = without_table table rows
rows_after _ rows = rows

-- ---- the directory

-- what each line does to the directory, all others nothing
abbrev pub directory_after : {A : Type 0} → (asker : Text) → Request A → Directory A → Directory A
directory_after asker (CreateTable table period) d = table_added table asker period d
directory_after asker (DropTable table) d = table_dropped table d
directory_after asker (Constraint table on) d = constraint_set table on d
directory_after asker (Period table period) d = period_set table period d
directory_after asker (CreateUser user digest auths) d = user_added user digest auths d
directory_after asker (DropUser user) d = user_dropped user d
directory_after asker (Token user digest) d = digest_set user digest d
directory_after asker (Auths user auths) d = auths_set user auths d
directory_after asker (GrantSystem user permission) d = system_granted user (system_permission permission) d
directory_after asker (RevokeSystem user permission) d = system_revoked user (system_permission permission) d
directory_after asker (GrantTable table user permission) d = granted user (OnTable table) (table_permission permission) d
directory_after asker (RevokeTable table user permission) d = revoked user (OnTable table) (table_permission permission) d
directory_after asker (GrantNamespace namespace user permission) d = granted user (OnNamespace namespace) (table_permission permission) d
directory_after asker (RevokeNamespace namespace user permission) d = revoked user (OnNamespace namespace) (table_permission permission) d
directory_after asker _ d = d
