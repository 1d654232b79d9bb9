-- Requests of users whose tokens hold, for worked examples.
use Rattle.std.proofs.Common.{ℕ, List, [], ◌∷◌, Some, refl, map}
use Rattle.std.specs.Prelude.{codes}
use Prim.Native.String.{String}
use Rattle.st_text.specs.Texts.{Text}
use Rattle.st_key.specs.inner.Coordinates.{point_at}
use Rattle.st_key.specs.declared.point.Point.{Point}
use Rattle.st_key.specs.declared.period.Period.{Period}
use Rattle.st_box.specs.declared.query.Query.{Query}
use Rattle.st_box.specs.inner.Coordinates.{query_of}
use Rattle.st_index.specs.declared.row.Row.{Row}
use Rattle.st_grant.specs.declared.permission.Permission.{Permission}
use Rattle.st_grant.specs.declared.table_permission.TablePermission.{TablePermission}
use Rattle.st_policy.specs.declared.denial.Denial.{Denial}
use Rattle.st_policy.specs.declared.refusal.Refusal.{Refusal}
use Rattle.st_policy.specs.declared.request.Request.{Request}
use Rattle.st_core.specs.declared.asked.Call.{Call}
use Rattle.st_policy.specs.declared.entry.Entry.{Entry}
use Rattle.st_policy.specs.declared.reply.Reply.{Reply}
use Rattle.st_core.specs.State.{State, first_state}
use Rattle.st_core.specs.Step.{Outcome, judge_call, settle}

pub record Said : Type 0 where
  pub user : Text
  pub request : Request ℕ

abbrev pub asks : String → Request ℕ → Said
asks user request = record { user = codes user; request = request }

abbrev pub outcome : State ℕ → Said → Outcome ℕ
outcome s said = settle s (judge_call s.directory (Some said.user) (Call.Good said.request))

abbrev pub after : State ℕ → List Said → State ℕ
after s [] = s
after s (said ∷ rest) = after (outcome s said).state rest

abbrev pub told : State ℕ → Said → Reply ℕ
told s said = (outcome s said).reply

abbrev pub all_told : State ℕ → List Said → List (Reply ℕ)
all_told s [] = []
all_told s (said ∷ rest) = (outcome s said).reply ∷ all_told (outcome s said).state rest

abbrev pub texts : List String → List Text
texts names = map codes names

abbrev pub here : Point
here = point_at 1 2 3 refl refl refl

abbrev pub row : String → Point → String → Row ℕ
row id point label = record { id = codes id; point = point; label = codes label; note = [] }

abbrev pub everything : Query
everything = query_of 0 2097151 0 2097151 0 19818086399 refl refl refl refl refl refl

abbrev pub put_in : String → String → String → String → Said
put_in user table id label = asks user (Request.Put (codes table) (row id here label))

abbrev pub put : String → String → Said
put id label = put_in "root" "points" id label

abbrev pub count_in : String → String → List String → Said
count_in user table auths = asks user (Request.Count (codes table) everything (texts auths))

abbrev pub count : List String → Said
count auths = count_in "root" "points" auths

abbrev pub fresh : List String → State ℕ
fresh auths = first_state [] (texts auths)

abbrev pub denied : Denial → Reply ℕ
denied denial = Reply.Refused (Refusal.Denied denial)

-- ---- changes of the directory

abbrev pub make_user : String → List String → Said
make_user user auths = asks "root" (Request.CreateUser (codes user) [] (texts auths))

abbrev pub make_table : String → String → Said
make_table user table = asks user (Request.CreateTable (codes table) Period.Week)

abbrev pub drop_table : String → String → Said
drop_table user table = asks user (Request.DropTable (codes table))

abbrev pub grant : String → String → TablePermission → Said
grant table user p = asks "root" (Request.GrantTable (codes table) (codes user) p)

abbrev pub grant_namespace : String → String → String → TablePermission → Said
grant_namespace asker namespace user p = asks asker (Request.GrantNamespace (codes namespace) (codes user) p)

abbrev pub lacks : Permission → String → Reply ℕ
lacks p table = denied (Denial.Permission p (Some (codes table)))

abbrev pub entry : String → ℕ → String → String → Entry
entry request result target user = record { request = codes request; result = result; target = codes target; user = codes user }
