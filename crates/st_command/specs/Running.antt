-- What a run of `st_run` does, by its exit status.
use Rattle.std.specs.Prelude.{◌≡◌, ◌⊎◌, ℕ, Some, None, Result, List, map}
use Rattle.std.specs.declared.alloc.Global.{Global}
use Rattle.st_text.specs.Texts.{Text}
use Rattle.st_core.specs.State.{State}
use Rattle.st_service.specs.Answers.{Answers}
use Rattle.st_connection.specs.Connection.{EndsOn, Served}
use Rattle.st_connection.specs.declared.connection.TheConstants.{MAX_READS}
use Rattle.st_connection.specs.declared.connection.Ended.{Ended}
use Rattle.st_connection.specs.declared.connection.IoFault.{IoFault}
use Rattle.st_journal.specs.declared.record.Record.{Record}
use Rattle.st_journal.specs.declared.journal.Journal.{Ghosts}
use Rattle.st_command_line.specs.Common.{RefusesWords, path_in}
use Rattle.st_command_line.specs.RunArguments.{SaysRun, run_command}
use Rattle.st_command_line.specs.declared.run_arguments.RunArguments.{RunArguments}
use Rattle.st_command.specs.Opening.{Fails, IsOfStore, OpensState, OpensWith}
use Rattle.st_connection.specs.Streams.{Streams, AreUntouched}
use Rattle.st_command.specs.Kept.{IsOpened, status_after}

-- The connection was served from the first state to the second, and the status says how it ended: a status that names an end, a spent
-- number of reads or a fault comes only where there was one.
pub record Serves (before after : State Global) (s : Streams) (status : ℕ) : Type 0 where
  pub ended : Result Ended IoFault
  pub served : Served Answers before after s ended
  pub ends : EndsOn MAX_READS s ended
  pub status_is : status ≡ status_after ended None

-- the arguments name no store, they open a state, and the connection was served from that state
pub record IsServed (words : List Text) (s : Streams) (status : ℕ) : Type 0 where
  pub said : RunArguments
  pub says : SaysRun words said
  pub in_memory : path_in said.store ≡ None
  pub before : State Global
  pub opens : OpensState said.digest.now (map (λ name. name.now) said.names.items) before
  pub after : State Global
  pub serves : Serves before after s status

-- The arguments name a store at a path, and open the state that its changes lead on from. Its journal was opened, or it was not, and
-- nothing was read or written.
pub record IsKept {J : Type 0} (holds : (path opening : List ℕ) → List Record → Type 0) (journals : Ghosts J) (words : List Text)
    (s : Streams) (status : ℕ) : Type 0 where
  pub said : RunArguments
  pub says : SaysRun words said
  pub path : Text
  pub named : path_in said.store ≡ Some path
  pub first : State Global
  pub opening : Text
  pub opens : OpensWith said.digest.now (map (λ name. name.now) said.names.items) first opening
  pub ends : IsOpened (holds path) journals opening first s status ⊎ Fails IsOfStore (AreUntouched s) status

-- it was one of these, or the arguments are refused, and nothing was read or written
abbrev pub Ran : {J : Type 0} → ((path opening : List ℕ) → List Record → Type 0) → Ghosts J → List Text → Streams → ℕ → Type 0
Ran holds journals words s status =
    IsServed words s status
    ⊎ (Fails (RefusesWords run_command words) (AreUntouched s) status ⊎ IsKept holds journals words s status)
