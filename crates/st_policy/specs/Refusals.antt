-- The numbers of refusals, and the names of fields.
use Rattle.std.specs.Prelude.{ℕ, codes}
use Rattle.st_text.specs.Texts.{Text}
use Rattle.st_policy.specs.declared.denial.Denial.{Denial}
use Rattle.st_policy.specs.declared.field_name.FieldName.{FieldName}
use Rattle.st_policy.specs.declared.refusal.Refusal.{Refusal}

abbrev pub field_text : FieldName → Text
field_text FieldName.After = codes "after"
field_text FieldName.Auths = codes "auths"
field_text FieldName.Box = codes "box"
field_text FieldName.Budget = codes "budget"
field_text FieldName.Digest = codes "digest"
field_text FieldName.Id = codes "id"
field_text FieldName.Label = codes "label"
field_text FieldName.Limit = codes "limit"
field_text FieldName.Namespace = codes "namespace"
field_text FieldName.Note = codes "note"
field_text FieldName.Nx = codes "nx"
field_text FieldName.Ny = codes "ny"
field_text FieldName.On = codes "on"
field_text FieldName.Period = codes "period"
field_text FieldName.Permission = codes "permission"
field_text FieldName.Point = codes "point"
field_text FieldName.Table = codes "table"
field_text FieldName.User = codes "user"

abbrev pub number_of : Refusal → ℕ
number_of Refusal.Json = 3
number_of (Refusal.Field name) = 4
number_of Refusal.BadBox = 5
number_of (Refusal.BadLabel at) = 6
number_of (Refusal.BadName field) = 7
number_of (Refusal.Denied Denial.Token) = 8
number_of (Refusal.Denied (Denial.Permission name table)) = 9
number_of (Refusal.Denied (Denial.NamespacePermission name namespace)) = 9
number_of (Refusal.Denied (Denial.Authorization name)) = 10
number_of (Refusal.Denied (Denial.Constraint label)) = 11
number_of (Refusal.Denied Denial.OwnSelf) = 12
number_of (Refusal.NoTable table) = 14
number_of (Refusal.NoUser user) = 15
number_of (Refusal.TableExists table) = 17
number_of (Refusal.UserExists user) = 18
