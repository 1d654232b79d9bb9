-- Worked examples of namespaces.
use Rattle.std.proofs.Common.{◌≡◌, [], ◌∷◌, refl}
use Rattle.std.specs.Prelude.{codes}
use Rattle.st_grant.specs.declared.permission.Permission.{Permission}
use Rattle.st_grant.specs.declared.table_permission.TablePermission.{TablePermission}
use Rattle.st_policy.specs.declared.denial.Denial.{Denial}
use Rattle.st_policy.specs.declared.request.Request.{Request}
use Rattle.st_policy.specs.declared.reply.Reply.{Reply}
use Rattle.st_core.proofs.Worked.{asks, after, all_told, count_in, fresh, denied, make_user, make_table, drop_table, grant, grant_namespace, lacks}

-- a grant on a namespace holds for its tables, those made later too, and for no other
each_table : all_told (after (fresh []) (make_user "u" [] ∷ make_table "root" "geo.a" ∷ grant_namespace "root" "geo" "u" TablePermission.Read ∷ []))
    (count_in "u" "geo.a" [] ∷ make_table "root" "geo.b" ∷ count_in "u" "geo.b" [] ∷ count_in "u" "points" []
    ∷ drop_table "root" "geo.a" ∷ make_table "root" "geo.a" ∷ count_in "u" "geo.a" []
    ∷ asks "root" (Request.RevokeNamespace (codes "geo") (codes "u") TablePermission.Read) ∷ count_in "u" "geo.a" [] ∷ [])
    ≡ Reply.Count 0 ∷ Reply.Accepted ∷ Reply.Count 0 ∷ lacks Permission.Read "points"
    ∷ Reply.Accepted ∷ Reply.Accepted ∷ Reply.Count 0 ∷ Reply.Accepted ∷ lacks Permission.Read "geo.a" ∷ []
each_table = refl

-- GRANT on a namespace lets its holder give permissions on its tables
granting : all_told (after (fresh []) (make_user "u" [] ∷ make_table "root" "geo.a" ∷ []))
    (grant_namespace "u" "geo" "u" TablePermission.Read ∷ grant_namespace "root" "geo" "u" TablePermission.Grant
    ∷ asks "u" (Request.GrantTable (codes "geo.a") (codes "u") TablePermission.Write) ∷ asks "u" (Request.NamespaceGrants (codes "geo")) ∷ [])
    ≡ denied (Denial.NamespacePermission Permission.Grant (codes "geo")) ∷ Reply.Accepted ∷ Reply.Accepted
    ∷ Reply.Grants (record { user = codes "u"; permissions = Permission.Grant ∷ [] } ∷ []) ∷ []
granting = refl

-- a grant on the first letters of a name holds for that name alone
first_letters : all_told
    (after (fresh []) (make_user "u" [] ∷ make_table "root" "geo.a" ∷ make_table "root" "geo.ab" ∷ grant_namespace "root" "ge" "u"
    TablePermission.Read ∷ grant "geo.a" "u" TablePermission.Read ∷ []))
    (count_in "u" "geo.ab" [] ∷ count_in "u" "geo.a" [] ∷ [])
    ≡ lacks Permission.Read "geo.ab" ∷ Reply.Count 0 ∷ []
first_letters = refl
