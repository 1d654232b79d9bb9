-- Whether a request is allowed. The directory alone decides.
use Rattle.std.specs.Prelude.{List, [], ◌∷◌, ◌++◌, Bool, ◌||◌, not, if◌then◌else◌}
use Rattle.std.specs.Prelude.{Option, Some, None, find, option_and_then, option_map, Result, Ok, Err}
use Rattle.st_text.specs.Texts.{Text, same}
use Rattle.st_label.specs.Reading.{is_true}
use Rattle.st_dir.specs.Directory.{Directory, is_table, is_user, is_granted, has_auth, has_system, has_table, is_constrained}
use Rattle.st_grant.specs.declared.grant.Scope.TheVariants.{OnNamespace}
use Rattle.st_grant.specs.declared.permission.Permission.{Permission}
use Rattle.st_policy.specs.declared.denial.Denial.{Denial}
use Rattle.st_policy.specs.declared.refusal.Refusal.{Refusal}
use Rattle.st_policy.specs.declared.refusal.Refusal.TheVariants.{NoTable, NoUser, TableExists, UserExists, Denied}
use Rattle.st_policy.specs.declared.request.Request.{Request}
use Rattle.st_policy.specs.declared.request.Request.TheVariants.{CreateTable, CreateUser, DropUser, Put}
use Rattle.st_policy.specs.Requests.{Need, Nothing, Table, System, TableOrSystem, NamespaceOrSystem, OneselfOrSystem}
use Rattle.st_policy.specs.Requests.{need_of, table_of, user_of, named_auths, first_some}

abbrev pub unless : Bool → Refusal → Option Refusal
unless holds refusal = if holds then None else Some refusal

-- ---- existence

abbrev pub table_exists : {A : Type 0} → Directory A → Option Text → Option Refusal
table_exists d table = option_and_then (λ name. unless (is_table d name) (NoTable name)) table

abbrev pub user_exists : {A : Type 0} → Directory A → Option Text → Option Refusal
user_exists d user = option_and_then (λ name. unless (is_user d name) (NoUser name)) user

-- a table or a user is made under a name that is free
abbrev pub name_is_free : {A : Type 0} → Directory A → Request A → Option Refusal
name_is_free d (CreateTable table period) = unless (not (is_table d table)) (TableExists table)
name_is_free d (CreateUser user digest auths) = unless (not (is_user d user)) (UserExists user)
name_is_free d _ = None

-- ---- permission

-- where two permissions would do, the denial names the table's or the namespace's
abbrev pub meets : {A : Type 0} → Directory A → Text → Need → Option Refusal
meets d asker Nothing = None
meets d asker (Table table p) = unless (has_table d asker table p) (Denied (Denial.Permission p (Some table)))
meets d asker (System p) = unless (has_system d asker p) (Denied (Denial.Permission p None))
meets d asker (TableOrSystem table p) =
    unless (has_table d asker table p || has_system d asker p) (Denied (Denial.Permission p (Some table)))
meets d asker (NamespaceOrSystem namespace p) =
    unless (is_granted d asker (OnNamespace namespace) p || has_system d asker p) (Denied (Denial.NamespacePermission p namespace))
meets d asker (OneselfOrSystem user p) = unless (same user asker || has_system d asker p) (Denied (Denial.Permission p None))

-- ---- authorization, constraint, oneself

-- each authorization that is named is the asker's own, or the first that isn't is refused
abbrev pub auths_are_held : {A : Type 0} → Directory A → Text → List Text → Option Refusal
auths_are_held d asker auths =
    option_map (λ name. Denied (Denial.Authorization name)) (find (λ name. not (has_auth d asker name)) auths)

-- in a table with a constraint a put's label is true for all authorizations of the writer (the
-- visibility constraint of Apache Accumulo); a delete is not tested
abbrev pub label_is_met : {A : Type 0} → Directory A → Text → Request A → Option Refusal
label_is_met d asker (Put table row) =
    unless (not (is_constrained d table) || is_true (has_auth d asker) row.label) (Denied (Denial.Constraint row.label))
label_is_met d asker _ = None

-- you cannot drop yourself
abbrev pub is_not_oneself : {A : Type 0} → Text → Request A → Option Refusal
is_not_oneself asker (DropUser user) = unless (not (same user asker)) (Denied Denial.OwnSelf)
is_not_oneself asker _ = None

-- existence, then permission
abbrev pub access : {A : Type 0} → Directory A → Text → Request A → List (Option Refusal)
access d asker request =
    table_exists d (table_of request) ∷ user_exists d (user_of request) ∷ name_is_free d request ∷ meets d asker (need_of request) ∷ []

-- the first refusal that applies, or none
abbrev pub refusal_of : {A : Type 0} → Directory A → Text → Request A → Option Refusal
refusal_of d asker request = first_some (
    access d asker request
    ++ auths_are_held d asker (named_auths request) ∷ label_is_met d asker request ∷ is_not_oneself asker request ∷ [])

-- the policy as the code answers it
abbrev pub decision : Option Refusal → Result (Unit {0}) Refusal
decision None = Ok tt
decision (Some refusal) = Err refusal
