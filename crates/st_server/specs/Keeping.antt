-- What a server whose store a journal keeps does and tells, by the status that it gives.
use Rattle.std.specs.Prelude.{◌≡◌, ◌⊎◌, ℕ, Option, Some, Result, Err, List, codes, map}
use Rattle.std.specs.declared.alloc.Global.{Global}
use Rattle.std.specs.Io.KnownBytes.{Appends}
use Rattle.st_text.specs.Texts.{Text}
use Rattle.st_core.specs.State.{State}
use Rattle.st_journal.specs.declared.record.Record.{Record}
use Rattle.st_journal.specs.declared.journal.Journal.{Ghosts}
use Rattle.st_journal.specs.Replays.{Replays}
use Rattle.st_journal_store.specs.Applying.{Applies}
use Rattle.st_command_line.specs.declared.fault.Fault.{Fault}
use Rattle.st_command_line.specs.declared.fault.Fault.TheVariants.{StoreLost}
use Rattle.st_command_line.specs.declared.served_arguments.ServedArguments.{ServedArguments}
use Rattle.st_command_line.specs.Common.{path_in}
use Rattle.st_command_line.specs.ServedArguments.{SaysServed, address_text}
use Rattle.st_command_line.specs.Status.{exit_status_after}
use Rattle.st_command.specs.Opening.{Fails, IsOfStore, OpensWith}
use Rattle.st_hall_group_commit.specs.Rolls.{HasFailed, Leaves}
use Rattle.st_server_peer.specs.Meeting.{Call}
use Rattle.st_server.specs.Attending.{Attends, held_back}
use Rattle.st_server_workers.specs.Telling.{Tells, line}

-- What is told of it: as of any server, and it may end since its store is lost, which is said on standard error.
abbrev pub TellsKept : Text → Option ℕ → Option (List ℕ) → Option (List ℕ) → Result Unit Fault → Type 0
TellsKept address connections old new (Err StoreLost) = Appends old new (line (codes "listening") address)
TellsKept address connections old new ended = Tells address connections old new ended

-- A journal was opened. Stations of a hall that begins with the state after its changes served the connections; what they answered is
-- kept, and is left in the end. The store is lost only where a journal failed.
pub record RunsOpened {P J : Type 0} (call : P → Call) (holds : List ℕ → List Record → Type 0) (journals : Ghosts J)
    (opening : List ℕ) (first : State Global) (said : ServedArguments) (old new : Option (List ℕ)) (status : ℕ) : Type 0 where
  pub journal : J
  pub before : State Global
  pub found : journals.misreads journal ≡ 0 → holds opening (journals.list journal)
  pub made : journals.misreads journal ≡ 0 → Replays Applies first (journals.list journal) before
  pub ended : Result Unit Fault
  pub attends : Attends call before (Leaves journals first before) held_back said.connections ended
  pub cause : ended ≡ Err StoreLost → HasFailed journals
  pub tells : TellsKept (address_text said.bind_address) said.connections old new ended
  pub status_is : status ≡ exit_status_after ended

-- The words name a store at a path, and open the state that its changes lead on from. Its journal was opened, or it was not, and nothing
-- was told.
pub record RunsKept {P J : Type 0} (call : P → Call) (holds : (path opening : List ℕ) → List Record → Type 0) (journals : Ghosts J)
    (words : List Text) (old new : Option (List ℕ)) (status : ℕ) : Type 0 where
  pub said : ServedArguments
  pub says : SaysServed words said
  pub path : Text
  pub named : path_in said.store ≡ Some path
  pub first : State Global
  pub opening : Text
  pub opens : OpensWith said.digest.now (map (λ name. name.now) said.names.items) first opening
  pub ends : RunsOpened call (holds path) journals opening first said old new status
      ⊎ Fails IsOfStore (new ≡ old) status
