-- The status and the body of the reply to a refused request: an object of JSON (RFC 8259) whose keys are in byte order.
use Rattle.std.specs.Prelude.{ℕ, List, [], ◌∷◌, codes, Some, None}
use Rattle.serde_json.specs.Data.{Data, number, unsigned, string, object, Members, no_members, member}
use Rattle.st_text.specs.Texts.{Text}
use Rattle.st_grant.specs.Permissions.{permission_name}
use Rattle.st_policy.specs.declared.denial.Denial.{Denial}
use Rattle.st_policy.specs.declared.refusal.Refusal.{Refusal}
use Rattle.st_policy.specs.Refusals.{field_text}

-- ---- status codes (RFC 9110, "Client Error 4xx")

abbrev pub refusal_status : Refusal → ℕ
refusal_status (Refusal.Denied Denial.Token) = 401
refusal_status (Refusal.Denied denial) = 403
refusal_status (Refusal.NoTable table) = 404
refusal_status (Refusal.NoUser user) = 404
refusal_status (Refusal.TableExists table) = 409
refusal_status (Refusal.UserExists user) = 409
refusal_status _ = 400

-- ---- bodies

-- an object of these members
abbrev pub members_in : List (Text × Data) → Members
members_in [] = no_members
members_in (m ∷ ms) = member m.0 m.1 (members_in ms)

abbrev pub object_of : List (Text × Data) → Data
object_of ms = object (members_in ms)

abbrev pub nat : ℕ → Data
nat n = number (unsigned n)

abbrev pub denial_data : Denial → Data
denial_data Denial.Token = object_of ((codes "error", string (codes "token")) ∷ [])
denial_data (Denial.Permission name None) =
    object_of ((codes "error", string (codes "permission")) ∷ (codes "permission", string (permission_name name)) ∷ [])
denial_data (Denial.Permission name (Some table)) =
    object_of ((codes "error", string (codes "permission")) ∷ (codes "permission", string (permission_name name))
    ∷ (codes "table", string table) ∷ [])
denial_data (Denial.NamespacePermission p name) =
    object_of ((codes "error", string (codes "permission")) ∷ (codes "namespace", string name)
    ∷ (codes "permission", string (permission_name p)) ∷ [])
denial_data (Denial.Authorization name) =
    object_of ((codes "authorization", string name) ∷ (codes "error", string (codes "authorization")) ∷ [])
denial_data (Denial.Constraint label) = object_of ((codes "error", string (codes "constraint")) ∷ (codes "label", string label) ∷ [])
denial_data Denial.OwnSelf = object_of ((codes "error", string (codes "self")) ∷ [])

abbrev pub refusal_data : Refusal → Data
refusal_data Refusal.Json = object_of ((codes "error", string (codes "json")) ∷ [])
refusal_data (Refusal.Field name) = object_of ((codes "error", string (codes "field")) ∷ (codes "field", string (field_text name)) ∷ [])
refusal_data Refusal.BadBox = object_of ((codes "error", string (codes "box")) ∷ [])
refusal_data (Refusal.BadLabel at) = object_of ((codes "at", nat at) ∷ (codes "error", string (codes "label")) ∷ [])
refusal_data (Refusal.BadName field) = object_of ((codes "error", string (codes "name")) ∷ (codes "field", string (field_text field)) ∷ [])
refusal_data (Refusal.Denied denial) = denial_data denial
refusal_data (Refusal.NoTable table) = object_of ((codes "error", string (codes "table")) ∷ (codes "table", string table) ∷ [])
refusal_data (Refusal.NoUser user) = object_of ((codes "error", string (codes "user")) ∷ (codes "user", string user) ∷ [])
refusal_data (Refusal.TableExists table) = object_of ((codes "error", string (codes "table-exists")) ∷ (codes "table", string table) ∷ [])
refusal_data (Refusal.UserExists user) = object_of ((codes "error", string (codes "user-exists")) ∷ (codes "user", string user) ∷ [])
