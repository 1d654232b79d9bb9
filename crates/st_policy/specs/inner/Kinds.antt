-- A stage of the code, which no reader has to believe: the kinds of requests, each of which is copied by a function of its own.
use Rattle.std.specs.Prelude.{Bool, true, false}
use Rattle.st_policy.specs.declared.request.Request.{Request}
use Rattle.st_policy.specs.declared.request.Request.TheVariants as requests

abbrev pub shows_rows : {A : Type 0} → Request A → Bool
shows_rows (requests.Get table id auths) = true
shows_rows (requests.Scan table query auths limit after) = true
shows_rows _ = false

abbrev pub shows_numbers : {A : Type 0} → Request A → Bool
shows_numbers (requests.Count table query auths) = true
shows_numbers (requests.Grid table query auths columns lines) = true
shows_numbers (requests.Plan table query budget) = true
shows_numbers _ = false

abbrev pub changes_tables : {A : Type 0} → Request A → Bool
changes_tables (requests.Put table row) = true
changes_tables (requests.Delete table id label) = true
changes_tables (requests.CreateTable table period) = true
changes_tables (requests.DropTable table) = true
changes_tables (requests.Constraint table on) = true
changes_tables (requests.Period table period) = true
changes_tables _ = false

abbrev pub changes_users : {A : Type 0} → Request A → Bool
changes_users (requests.CreateUser user digest auths) = true
changes_users (requests.DropUser user) = true
changes_users (requests.Token user digest) = true
changes_users (requests.Auths user auths) = true
changes_users _ = false

abbrev pub is_grant : {A : Type 0} → Request A → Bool
is_grant (requests.GrantSystem user permission) = true
is_grant (requests.GrantTable table user permission) = true
is_grant (requests.GrantNamespace namespace user permission) = true
is_grant _ = false

abbrev pub is_revoke : {A : Type 0} → Request A → Bool
is_revoke (requests.RevokeSystem user permission) = true
is_revoke (requests.RevokeTable table user permission) = true
is_revoke (requests.RevokeNamespace namespace user permission) = true
is_revoke _ = false
