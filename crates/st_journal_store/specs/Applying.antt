-- What a recorded change makes of a state.
use Rattle.std.specs.Prelude.{◌≡◌, true, IsTrue, Option, Some, None, Ok}
use Rattle.st_text.specs.Names.{is_name}
use Rattle.st_dir.specs.Directory.{Directory, is_user}
use Rattle.st_policy.specs.declared.request.Request.{Request}
use Rattle.st_policy.specs.Requests.{is_change}
use Rattle.st_core.specs.declared.asked.Asked.{Asked}
use Rattle.st_core.specs.declared.asked.Call.{Call}
use Rattle.st_core.specs.State.{State}
use Rattle.st_core.specs.Step.{judge_call, settle, step}
use Rattle.st_journal.specs.declared.record.Record.{Record}
use Rattle.st_journal_record.specs.Records.{ReadsAs}

-- The record is that of a change, and its user is a name and one of the state's users. The change is judged by the state, made or refused,
-- and listed.
pub record Applies {A : Type 0} (before : State A) (r : Record) (after : State A) : Type 0 where
  pub request : Request A
  pub reads : ReadsAs r (Ok request)
  pub change : is_change request ≡ true
  pub named : IsTrue (is_name r.user)
  pub user : is_user before.directory r.user ≡ true
  pub after_is : after ≡ (settle before (judge_call before.directory (Some r.user) (Call.Good request))).state

-- From each state of this directory the record of a change leads to the state after it. A change without a record leaves the state.
abbrev pub Notes : {A : Type 0} → Directory A → Asked A → Option Record → Type 0
Notes {A} d asked None = (s : State A) → s.directory ≡ d → (step s asked).state ≡ s
Notes {A} d asked (Some r) = (s : State A) → s.directory ≡ d → Applies s r (step s asked).state
