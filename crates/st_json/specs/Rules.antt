-- The rules of bodies, one by one.
use Rattle.std.specs.Prelude.{◌≡◌, ◌⊎◌, ℕ, Bool, List, IsTrue, IsUtf8, codes, Option, Some, None, option_and_then, Result, Ok, Err}
use Rattle.serde_json.specs.Data.{Data, Members, object}
use Rattle.serde_json.specs.Find.{get, as_str}
use Rattle.serde_json.specs.Read.{read}
use Rattle.st_key.specs.declared.period.Period.{Period}
use Rattle.st_key.specs.declared.place.Place.{Place}
use Rattle.st_text.specs.Texts.{Text}
use Rattle.st_text.specs.Names.{is_name, is_table_name}
use Rattle.st_auth.specs.Names.{first_bad}
use Rattle.st_box.specs.declared.query.Query.{Query}
use Rattle.st_box.specs.Query as query
use Rattle.st_label.specs.Reading.{IsLabel}
use Rattle.st_label.specs.Refusals.{max_len}
use Rattle.st_label.specs.Faults.{RefusesLabel}
use Rattle.st_label.specs.declared.label.LabelFault.TheVariants as fault
use Rattle.st_policy.specs.Refusals.{field_text}
use Rattle.st_policy.specs.declared.field_name.FieldName.{FieldName}
use Rattle.st_policy.specs.declared.field_name.FieldName.TheVariants as names
use Rattle.st_policy.specs.declared.refusal.Refusal.{Refusal}
use Rattle.st_policy.specs.declared.refusal.Refusal.TheVariants.{Json, Field, BadBox, BadLabel, BadName}
use Rattle.st_json.specs.declared.value.Bounds.{Bounds}
use Rattle.st_json.specs.Fields.{HasAfter, HasBox, text_in, list_in, number_in, period_or_week, sized}
use Rattle.st_json.specs.Needs.{Rule, Has}

-- the body is UTF-8 and reads as this object
abbrev pub ObjectOf : List ℕ → Rule Data
ObjectOf body = Has Json (λ d. IsUtf8 body × (read body ≡ Some d) × ((ms : Members) × (d ≡ object ms)))

-- ---- the fields of an object, of their types and in their ranges

-- what the field of this name is read as, if anything
abbrev pub Found : {B : Type 0} → FieldName → Option B → Rule B
Found name value = Has (Field name) (λ b. value ≡ Some b)

-- a text
abbrev pub TextField : FieldName → Data → Rule Text
TextField name d = Found name (text_in (field_text name) d)

-- what the value is read as
abbrev pub ValueField : {B : Type 0} → (Data → Option B) → FieldName → Data → Rule B
ValueField reading name d = Found name (option_and_then reading (get (field_text name) d))

-- what a text is read as
abbrev pub ReadField : {B : Type 0} → (Text → Option B) → FieldName → Data → Rule B
ReadField reading name d = Found name (option_and_then reading (text_in (field_text name) d))

-- a number from the least to the most
abbrev pub NumberField : ℕ → ℕ → FieldName → Data → Rule ℕ
NumberField least most name d = Found name (number_in least most (field_text name) d)

-- a text of 1 to 64 bytes
abbrev pub IdField : Data → Rule Text
IdField = ReadField (sized 1 64) names.Id

abbrev pub BoxField : Data → Rule Bounds
BoxField d = Has (Field names.Box) (HasBox d)

-- a list of texts
abbrev pub AuthsField : Data → Rule (List Text)
AuthsField d = Found names.Auths (list_in as_str (codes "auths") d)

abbrev pub AfterField : {A : Type 0} → Data → Rule (Option (Place A))
AfterField d = Has (Field names.After) (HasAfter d)

abbrev pub NoteField : Data → Rule Text
NoteField = ReadField (sized 0 4096) names.Note

-- a week, if nothing else is said
abbrev pub PeriodField : Data → Rule Period
PeriodField d = Found names.Period (period_or_week (get (codes "period") d))

-- ---- what numbers and texts make

-- the query with these six numbers
abbrev pub IsQuery : Bounds → Query → Type 0
IsQuery b q = query.Makes b.x0 b.x1 b.y0 b.y1 b.t0 b.t1 q

abbrev pub QueryOf : Bounds → Rule Query
QueryOf b = Has BadBox (IsQuery b)

-- The place at which a text is not a label: the greatest length of labels, if the text is too long.
abbrev pub RefusesAt : Text → ℕ → Type 0
RefusesAt text at =
    RefusesLabel text (fault.BadLabel at) ⊎ (RefusesLabel text (fault.TooDeep at) ⊎ (RefusesLabel text fault.TooLong × (at ≡ max_len)))

-- the label that the text writes, or the place at which it is not a label
abbrev pub LabelOf : Text → Result Text Refusal → Type 0
LabelOf text (Ok label) = (label ≡ text) × IsLabel text
LabelOf text (Err refusal) = (at : ℕ) × (refusal ≡ BadLabel at) × RefusesAt text at

-- ---- names

-- the text, if it passes the test of names
abbrev pub NameOf : FieldName → (Text → Bool) → Text → Rule Text
NameOf field is_valid text = Has (BadName field) (λ name. (name ≡ text) × IsTrue (is_valid text))

abbrev pub TableOf : Text → Rule Text
TableOf = NameOf names.Table is_table_name

abbrev pub UserOf : Text → Rule Text
UserOf = NameOf names.User is_name

abbrev pub NamespaceOf : Text → Rule Text
NamespaceOf = NameOf names.Namespace is_name

-- the texts are these authorizations, each of them valid
abbrev pub AuthsOf : List Text → Rule (List Text)
AuthsOf texts = Has (BadName names.Auths) (λ auths. (auths ≡ texts) × (first_bad texts ≡ None))
