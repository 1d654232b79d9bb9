-- A state that is made again from the records of a journal, which are kept beside what the policy says.
use Rattle.std.specs.Prelude.{◌≡◌, List, [], ◌∷◌, ◌++◌, Bool, Ok, is_none}
use Rattle.std.specs.declared.alloc.Global.{Global}
use Rattle.st_policy.specs.declared.request.Request.{Request}
use Rattle.st_policy.specs.Policy.{refusal_of}
use Rattle.st_core.specs.State.{State}
use Rattle.st_journal.specs.declared.record.Record.{Record}
use Rattle.st_journal_record.specs.Records.{ReadsAs}
use Rattle.st_journal.specs.Replays.{Replays}
use Rattle.st_journal_store.specs.Applying.{Applies}
use Rattle.st_journal_compact.specs.declared.judged_record.JudgedRecord.{JudgedRecord}

pub record Watched : Type 0 where
  pub state : State Global
  pub changes : List JudgedRecord

-- The record applies to the state. It is put behind the others, with what the policy says of its request.
pub record Watches (before : Watched) (r : Record) (after : Watched) : Type 0 where
  pub made : Applies before.state r after.state
  pub request : Request Global
  pub reads : ReadsAs r (Ok request)
  pub accepted : Bool
  pub judged : accepted ≡ is_none (refusal_of before.state.directory r.user request)
  pub put : after.changes ≡ before.changes ++ record { note = r; accepted = accepted } ∷ []

-- the records make this of a state behind which no change was put yet
abbrev pub IsWatched : Watched → List Record → Watched → Type 0
IsWatched first records after = (first.changes ≡ []) × Replays Watches first records after
