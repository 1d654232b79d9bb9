-- What went out before the state that an opening finds.
use Rattle.std.specs.Prelude.{◌≡◌, ◌⊎◌, ℕ, Bool, List, [], ◌++◌, Result}
use Rattle.std.specs.List.{concat}
use Rattle.std.specs.Io.KnownBytes.{Appends}
use Rattle.std.specs.declared.alloc.Global.{Global}
use Rattle.st_http.specs.First.{First}
use Rattle.st_core.specs.State.{State}
use Rattle.st_journal.specs.declared.record.Record.{Record}
use Rattle.st_journal.specs.Replays.{Replays}
use Rattle.st_journal_store.specs.Applying.{Applies}
use Rattle.st_connection.specs.Connection.{Answering, KeptUnlessLost, Run, ServedWithin, WithInterim}
use Rattle.st_connection.specs.Render.{continue_text}
use Rattle.st_connection.specs.Streams.{Streams}
use Rattle.st_connection.specs.declared.connection.Ended.{Ended}
use Rattle.st_connection.specs.declared.connection.IoFault.{IoFault}

-- A call was served, with no answer held back, and all that was answered is kept unless it ended as lost.
abbrev pub WasServed : {S : Type 0} → Answering S → (old all kept : S) → Streams → (failed : Bool) → Result Ended IoFault → Type 0
WasServed step old all kept s failed result = ServedWithin step 0 old all kept s result × KeptUnlessLost kept all failed result

-- Items got answers, one after another, and led from the old state to the one that is found. What was written is a front of these
-- answers, and perhaps an interim response behind them, which promises nothing.
pub record FoundAfter {S : Type 0} (step : Answering S) (old found : S) (s : Streams) : Type 0 where
  pub items : List First
  pub answers : List (List ℕ)
  pub run : Run (WithInterim step) old items answers found
  pub sent : List ℕ
  pub wrote : Appends s.held_old s.held_new sent
  pub said : List ℕ
  pub may : (said ≡ []) ⊎ (said ≡ continue_text)
  pub missing : List ℕ
  pub all : concat answers ++ said ≡ sent ++ missing

-- From the first state the records lead to no state but such a one: nothing that was written is taken back.
abbrev pub TakesNothingBack : Answering (State Global) → (first old : State Global) → Streams → List Record → Type 0
TakesNothingBack step first old s records = (found : State Global) → Replays Applies first records found → FoundAfter step old found s
