-- Which request an endpoint, the name in its path and a body make, or which refusal.
use Rattle.std.specs.Prelude.{ℕ, List, Bool, true, false, Option, Result}
use Rattle.serde_json.specs.Data.{Data, null}
use Rattle.serde_json.specs.Find.{as_bool}
use Rattle.st_text.specs.Texts.{Text}
use Rattle.st_key.specs.declared.place.Place.{Place}
use Rattle.st_key.specs.declared.point.Point.{Point}
use Rattle.st_box.specs.declared.query.Query.{Query}
use Rattle.st_json.specs.declared.value.Bounds.{Bounds}
use Rattle.st_grant.specs.Permissions.{table_permission_named, system_permission_named}
use Rattle.st_grant.specs.declared.table_permission.TablePermission.{TablePermission}
use Rattle.st_policy.specs.declared.field_name.FieldName.TheVariants as names
use Rattle.st_policy.specs.declared.refusal.Refusal.{Refusal}
use Rattle.st_policy.specs.declared.refusal.Refusal.TheVariants.{Field}
use Rattle.st_policy.specs.declared.request.Request.{Request}
use Rattle.st_policy.specs.declared.request.Request.TheVariants as requests
use Rattle.st_http.specs.declared.routes.Endpoint.{Endpoint}
use Rattle.st_http.specs.declared.routes.Endpoint.TheVariants as endpoints
use Rattle.st_json.specs.Fields.{HasPoint, as_period, digest_of}
use Rattle.st_json.specs.Needs.{Rule, Has, ◌>>=◌, Yields}
use Rattle.st_json.specs.Rules.{ObjectOf, TextField, ValueField, ReadField, NumberField, IdField, BoxField, AuthsField}
use Rattle.st_json.specs.Rules.{AfterField, NoteField, PeriodField, QueryOf, LabelOf, TableOf, UserOf, NamespaceOf, AuthsOf}

abbrev pub Answer : Type 0 → Type 0
Answer A = Result (Request A) Refusal

-- what the four endpoints make that grant or revoke on a table or a namespace, whose name the first rule gives
abbrev pub MadeGrant : {A : Type 0} → Rule Text → (Text → Text → TablePermission → Request A) → Data → Rule (Request A)
MadeGrant on make d =
    TextField names.User d >>= λ text. ReadField table_permission_named names.Permission d >>= λ p.
    on >>= λ scope. UserOf text >>= λ user. Yields (make scope user p)

-- what is asked of the rows of a table, whose name is in the path, inside a box and by authorizations
abbrev pub MadeRead : {A : Type 0} → Bounds → Text → List Text → (Text → Query → List Text → Request A) → Rule (Request A)
MadeRead bounds name texts make =
    QueryOf bounds >>= λ query. TableOf name >>= λ table. AuthsOf texts >>= λ auths. Yields (make table query auths)

abbrev pub MadeScan : {A : Type 0} → Bounds → Text → List Text → ℕ → Option (Place A) → Rule (Request A)
MadeScan bounds name texts limit after = MadeRead bounds name texts (λ table query auths. requests.Scan table query auths limit after)

abbrev pub MadeGrid : {A : Type 0} → Bounds → Text → List Text → (nx ny : ℕ) → Rule (Request A)
MadeGrid bounds name texts nx ny = MadeRead bounds name texts (λ table query auths. requests.Grid table query auths nx ny)

abbrev pub MadePut : {A : Type 0} → (name id : Text) → Point → (text note : Text) → Rule (Request A)
MadePut name id point text note =
    LabelOf text >>= λ label. TableOf name >>= λ table.
    Yields (requests.Put table (record { id = id; point = point; label = label; note = note }))

abbrev pub MadeUser : {A : Type 0} → (text digest : Text) → List Text → Rule (Request A)
MadeUser text digest texts = UserOf text >>= λ user. AuthsOf texts >>= λ auths. Yields (requests.CreateUser user digest auths)

-- The request that an endpoint makes of the object in its body, or the refusal: its rules, in their order. A path without
-- a name has the empty one.
abbrev pub Made : {A : Type 0} → Endpoint → Text → Data → Rule (Request A)
Made endpoints.Whoami name d = Yields requests.Whoami
Made endpoints.Tables name d = Yields requests.Tables
Made endpoints.Users name d = Yields requests.Users
Made endpoints.User name d = UserOf name >>= λ user. Yields (requests.User user)
Made endpoints.Grants name d = TableOf name >>= λ table. Yields (requests.Grants table)
Made endpoints.NamespaceGrants name d = NamespaceOf name >>= λ namespace. Yields (requests.NamespaceGrants namespace)
Made endpoints.Label name d = TextField names.Label d >>= λ text. LabelOf text >>= λ label. Yields (requests.Label label)
Made endpoints.Audit name d = Yields requests.Audit
Made endpoints.Get name d =
    IdField d >>= λ id. AuthsField d >>= λ texts.
    TableOf name >>= λ table. AuthsOf texts >>= λ auths. Yields (requests.Get table id auths)
Made endpoints.Scan name d =
    BoxField d >>= λ bounds. AuthsField d >>= λ texts. NumberField 1 1000 names.Limit d >>= λ limit. AfterField d >>= λ after.
    MadeScan bounds name texts limit after
Made endpoints.Count name d = BoxField d >>= λ bounds. AuthsField d >>= λ texts. MadeRead bounds name texts requests.Count
Made endpoints.Grid name d =
    BoxField d >>= λ bounds. AuthsField d >>= λ texts. NumberField 1 32 names.Nx d >>= λ nx. NumberField 1 32 names.Ny d >>= λ ny.
    MadeGrid bounds name texts nx ny
Made endpoints.Plan name d =
    BoxField d >>= λ bounds. NumberField 1 64 names.Budget d >>= λ budget.
    QueryOf bounds >>= λ query. TableOf name >>= λ table. Yields (requests.Plan table query budget)
Made endpoints.Put name d =
    IdField d >>= λ id. Has (Field names.Point) (HasPoint d) >>= λ point. TextField names.Label d >>= λ text. NoteField d >>= λ note.
    MadePut name id point text note
Made endpoints.Delete name d =
    IdField d >>= λ id. TextField names.Label d >>= λ text.
    LabelOf text >>= λ label. TableOf name >>= λ table. Yields (requests.Delete table id label)
Made endpoints.CreateTable name d =
    TextField names.Table d >>= λ text. PeriodField d >>= λ period. TableOf text >>= λ table. Yields (requests.CreateTable table period)
Made endpoints.DropTable name d = TableOf name >>= λ table. Yields (requests.DropTable table)
Made endpoints.Constraint name d = ValueField as_bool names.On d >>= λ on. TableOf name >>= λ table. Yields (requests.Constraint table on)
Made endpoints.Period name d =
    ValueField as_period names.Period d >>= λ period. TableOf name >>= λ table. Yields (requests.Period table period)
Made endpoints.CreateUser name d =
    TextField names.User d >>= λ text. ReadField digest_of names.Digest d >>= λ digest. AuthsField d >>= λ texts. MadeUser text digest texts
Made endpoints.DropUser name d = UserOf name >>= λ user. Yields (requests.DropUser user)
Made endpoints.Token name d = ReadField digest_of names.Digest d >>= λ digest. UserOf name >>= λ user. Yields (requests.Token user digest)
Made endpoints.Auths name d =
    AuthsField d >>= λ texts. UserOf name >>= λ user. AuthsOf texts >>= λ auths. Yields (requests.Auths user auths)
Made endpoints.GrantSystem name d =
    ReadField system_permission_named names.Permission d >>= λ p. UserOf name >>= λ user. Yields (requests.GrantSystem user p)
Made endpoints.RevokeSystem name d =
    ReadField system_permission_named names.Permission d >>= λ p. UserOf name >>= λ user. Yields (requests.RevokeSystem user p)
Made endpoints.GrantTable name d = MadeGrant (TableOf name) requests.GrantTable d
Made endpoints.RevokeTable name d = MadeGrant (TableOf name) requests.RevokeTable d
Made endpoints.GrantNamespace name d = MadeGrant (NamespaceOf name) requests.GrantNamespace d
Made endpoints.RevokeNamespace name d = MadeGrant (NamespaceOf name) requests.RevokeNamespace d

-- the body is read, unless the method is GET or DELETE
abbrev pub has_body : Endpoint → Bool
has_body endpoints.Whoami = false
has_body endpoints.Tables = false
has_body endpoints.Users = false
has_body endpoints.User = false
has_body endpoints.Grants = false
has_body endpoints.NamespaceGrants = false
has_body endpoints.Audit = false
has_body endpoints.DropTable = false
has_body endpoints.DropUser = false
has_body _ = true

-- a body that is not read counts as null
abbrev pub ReadBody : Bool → List ℕ → Rule Data
ReadBody true body = ObjectOf body
ReadBody false body = Yields null

-- the same of the bytes of the body
abbrev pub Decoded : {A : Type 0} → Endpoint → Text → List ℕ → Rule (Request A)
Decoded endpoint name body = ReadBody (has_body endpoint) body >>= Made endpoint name
