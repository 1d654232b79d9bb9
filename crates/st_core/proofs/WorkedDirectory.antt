-- Worked examples of users, tables and grants.
use Rattle.std.proofs.Common.{◌≡◌, [], ◌∷◌, true, false, None, refl, map}
use Rattle.std.specs.Prelude.{codes}
use Rattle.st_key.specs.declared.period.Period.{Period}
use Rattle.st_label.specs.inner.Machine.{class_of}
use Rattle.st_label.specs.Reading.{reading}
use Rattle.st_grant.specs.Permissions.{system_permissions, table_permissions}
use Rattle.st_grant.specs.declared.permission.Permission.{Permission}
use Rattle.st_grant.specs.declared.system_permission.SystemPermission.{SystemPermission}
use Rattle.st_grant.specs.declared.table_permission.TablePermission.{TablePermission}
use Rattle.st_policy.specs.declared.denial.Denial.{Denial}
use Rattle.st_policy.specs.declared.refusal.Refusal.{Refusal}
use Rattle.st_policy.specs.declared.request.Request.{Request}
use Rattle.st_policy.specs.declared.reply.Reply.{Reply}
use Rattle.st_core.proofs.Worked.{asks, after, told, all_told, texts, put_in, count_in, count, fresh, denied, make_user, make_table, drop_table, grant, lacks, entry}

-- ---- listings

-- what root is shown of the first state
first_listings : map (told (fresh ("B" ∷ "A" ∷ "B" ∷ [])))
    (asks "root" Request.Whoami ∷ asks "root" Request.Tables ∷ asks "root" Request.Users ∷ asks "root" (Request.Grants (codes "points")) ∷ asks "root"
    Request.Audit ∷ [])
    ≡ Reply.Who (record { user = codes "root"; auths = texts ("A" ∷ "B" ∷ []); permissions = system_permissions })
    ∷ Reply.Tables (record { table = codes "points"; constraint = false; period = Period.Week } ∷ [])
    ∷ Reply.Users (texts ("root" ∷ []))
    ∷ Reply.Grants (record { user = codes "root"; permissions = table_permissions } ∷ [])
    ∷ Reply.Audit [] ∷ []
first_listings = refl

-- users, tables and grants are listed by name, whatever the order in which they were made
listed_by_name : map (told
    (after (fresh []) (make_user "v" [] ∷ make_user "a" [] ∷ make_table "root" "b" ∷ make_table "root" "a" ∷ grant "points" "v" TablePermission.Write
    ∷ grant "points" "v" TablePermission.Read ∷ [])))
    (asks "a" Request.Users ∷ asks "a" Request.Tables ∷ asks "a" (Request.Grants (codes "points")) ∷ [])
    ≡ Reply.Users (texts ("a" ∷ "root" ∷ "v" ∷ []))
    ∷ Reply.Tables (record { table = codes "a"; constraint = false; period = Period.Week } ∷ record
    { table = codes "b"; constraint = false; period = Period.Week } ∷ record { table = codes "points"; constraint = false; period = Period.Week }
    ∷ [])
    ∷ Reply.Grants (record { user = codes "root"; permissions = table_permissions } ∷ record { user = codes "v"; permissions = Permission.Read ∷ Permission.Write ∷ [] } ∷ []) ∷ []
listed_by_name = refl

-- ---- users

nobody_there : map (told (fresh []))
    (asks "root" (Request.User (codes "zoe")) ∷ asks "root" (Request.DropUser (codes "zoe")) ∷ asks "root"
    (Request.GrantTable (codes "points") (codes "zoe") TablePermission.Read) ∷ asks "root"
    (Request.GrantNamespace (codes "n") (codes "zoe") TablePermission.Read) ∷ [])
    ≡ Reply.Refused (Refusal.NoUser (codes "zoe")) ∷ Reply.Refused (Refusal.NoUser (codes "zoe")) ∷ Reply.Refused (Refusal.NoUser (codes "zoe")) ∷ Reply.Refused (Refusal.NoUser (codes "zoe")) ∷ []
nobody_there = refl

-- you cannot drop yourself, whatever your permissions
oneself : told (fresh []) (asks "root" (Request.DropUser (codes "root"))) ≡ denied Denial.OwnSelf
oneself = refl

-- one's own token may be set, and another's by who has the permission
own_token : all_told (after (fresh []) (make_user "v" [] ∷ []))
    (asks "v" (Request.Token (codes "v") (1 ∷ [])) ∷ asks "v" (Request.Token (codes "root") (1 ∷ [])) ∷ asks "root"
    (Request.Token (codes "v") (2 ∷ [])) ∷ [])
    ≡ Reply.Accepted ∷ denied (Denial.Permission Permission.AlterUser None) ∷ Reply.Accepted ∷ []
own_token = refl

token_set : map (λ user. user.digest) (after (fresh []) (make_user "v" [] ∷ asks "v" (Request.Token (codes "v") (7 ∷ [])) ∷ [])).directory.users ≡ [] ∷ (7 ∷ []) ∷ []
token_set = refl

auths_set : told (after (fresh []) (make_user "v" ("A" ∷ []) ∷ asks "root" (Request.Auths (codes "v") (texts ("C" ∷ "B" ∷ "C" ∷ []))) ∷ [])) (asks "v" Request.Whoami)
    ≡ Reply.Who (record { user = codes "v"; auths = texts ("B" ∷ "C" ∷ []); permissions = [] })
auths_set = refl

-- with a user go the grants to it, and a user of the same name made later has none of them
made_again : all_told (after (fresh [])
    (make_user "v" [] ∷ grant "points" "v" TablePermission.Read ∷ asks "root" (Request.DropUser (codes "v")) ∷ []))
    (make_user "v" [] ∷ count_in "v" "points" [] ∷ make_user "v" [] ∷ [])
    ≡ Reply.Accepted ∷ lacks Permission.Read "points" ∷ Reply.Refused (Refusal.UserExists (codes "v")) ∷ []
made_again = refl

-- granting what is held and revoking what is not change nothing but the audit listing
granted_twice : (after (fresh [])
    (asks "root" (Request.GrantSystem (codes "root") SystemPermission.System) ∷ grant "points" "root" TablePermission.Read ∷ asks "root"
    (Request.RevokeNamespace (codes "n") (codes "root") TablePermission.Read) ∷ [])).directory ≡ (fresh []).directory
granted_twice = refl

-- who lets go of GRANT can't take it again
let_go : all_told (fresh [])
    (asks "root" (Request.RevokeSystem (codes "root") SystemPermission.Grant) ∷ asks "root"
    (Request.GrantSystem (codes "root") SystemPermission.Grant) ∷ asks "root"
    (Request.RevokeTable (codes "points") (codes "root") TablePermission.Read) ∷ [])
    ≡ Reply.Accepted ∷ denied (Denial.Permission Permission.Grant None) ∷ Reply.Accepted ∷ []
let_go = refl

-- ---- tables

-- a table that is dropped loses its rows and its grants, and one made again under its name has none of them
table_made_again : all_told (after (fresh []) (make_user "u" [] ∷ make_user "v" [] ∷ asks "root" (Request.GrantSystem (codes "u") SystemPermission.CreateTable) ∷ []))
    (make_table "u" "t" ∷ asks "u" (Request.GrantTable (codes "t") (codes "v") TablePermission.Read) ∷ put_in "u" "t" "p" "" ∷ count_in "v" "t" []
    ∷ drop_table "u" "t" ∷ make_table "u" "t" ∷ count_in "v" "t" [] ∷ count_in "u" "t" [] ∷ [])
    ≡ Reply.Accepted ∷ Reply.Accepted ∷ Reply.Accepted ∷ Reply.Count 1
    ∷ Reply.Accepted ∷ Reply.Accepted ∷ lacks Permission.Read "t" ∷ Reply.Count 0 ∷ []
unfolding reading class_of
table_made_again = refl

table_refusals : all_told (after (fresh []) (make_user "u" [] ∷ []))
    (make_table "root" "points" ∷ make_table "u" "t" ∷ drop_table "u" "t" ∷ drop_table "u" "points" ∷ asks "u"
    (Request.Constraint (codes "points") true) ∷ asks "u" (Request.Period (codes "points") Period.Day) ∷ [])
    ≡ Reply.Refused (Refusal.TableExists (codes "points")) ∷ denied (Denial.Permission Permission.CreateTable None) ∷ Reply.Refused (Refusal.NoTable (codes "t"))
    ∷ lacks Permission.DropTable "points" ∷ lacks Permission.AlterTable "points" ∷ lacks Permission.AlterTable "points" ∷ []
table_refusals = refl

period_set : told (after (fresh []) (asks "root" (Request.Period (codes "points") Period.Day) ∷ [])) (asks "root" Request.Tables)
    ≡ Reply.Tables (record { table = codes "points"; constraint = false; period = Period.Day } ∷ [])
period_set = refl

-- the constraint is on, and off again; a delete is not tested
constraint_on_and_off : all_told (after (fresh ("S" ∷ [])) (make_user "u" [] ∷ grant "points" "u" TablePermission.Write ∷ []))
    (asks "root" (Request.Constraint (codes "points") true) ∷ put_in "u" "points" "p" "S" ∷ count ("S" ∷ []) ∷ asks "u" (Request.Delete (codes "points") (codes "p") (codes "S"))
    ∷ asks "root" (Request.Constraint (codes "points") false) ∷ put_in "u" "points" "p" "S" ∷ count ("S" ∷ []) ∷ [])
    ≡ Reply.Accepted ∷ denied (Denial.Constraint (codes "S")) ∷ Reply.Count 0 ∷ Reply.Accepted
    ∷ Reply.Accepted ∷ Reply.Accepted ∷ Reply.Count 1 ∷ []
unfolding reading class_of
constraint_on_and_off = refl

-- ---- the audit listing

audit_shown : all_told (after (fresh []) (make_user "v" [] ∷ [])) (put_in "v" "points" "p" "" ∷ asks "root" Request.Audit ∷ asks "v" Request.Audit ∷ [])
    ≡ lacks Permission.Write "points"
    ∷ Reply.Audit (entry "create-user" 0 "v" "root" ∷ entry "put" 9 "points" "v" ∷ [])
    ∷ denied (Denial.Permission Permission.System None) ∷ []
audit_shown = refl

-- what an entry names: the table, the namespace, the user, or the name that is made
targets : map (λ entry. entry.target)
    (after (fresh []) (make_table "root" "t" ∷ make_user "v" [] ∷ grant "t" "v" TablePermission.Read ∷ asks "root"
    (Request.GrantNamespace (codes "n") (codes "v") TablePermission.Read) ∷ asks "root" (Request.DropUser (codes "v")) ∷ [])).audit
    ≡ texts ("t" ∷ "v" ∷ "t" ∷ "n" ∷ "v" ∷ [])
targets = refl
