-- How a connection is served from a store that a journal keeps.
use Rattle.std.specs.Prelude.{◌≡◌, ◌≢◌, ℕ, Option, Some, is_some, Result, Ok, Err, List}
use Rattle.std.specs.declared.alloc.Global.{Global}
use Rattle.st_core.specs.State.{State}
use Rattle.st_journal.specs.declared.record.Record.{Record}
use Rattle.st_journal.specs.declared.journal.Journal.{Ghosts}
use Rattle.st_journal.specs.Leaving.{LeavesOnly}
use Rattle.st_journal.specs.Faults.{FaultsRise}
use Rattle.st_journal.specs.Replays.{Replays}
use Rattle.st_service.specs.Answers.{Answers}
use Rattle.st_connection.specs.Connection.{EndsOn, KeptUnlessLost, ServedWithin}
use Rattle.st_connection.specs.declared.connection.TheConstants.{MAX_READS}
use Rattle.st_connection.specs.declared.connection.Ended.{Ended}
use Rattle.st_connection.specs.declared.connection.Ended.TheVariants.{Cut, TurnsSpent, Lost}
use Rattle.st_connection.specs.declared.connection.IoFault.{IoFault}
use Rattle.st_journal_store.specs.declared.loss.Loss.{Loss}
use Rattle.st_journal_store.specs.declared.loss.Loss.TheVariants.{Disk}
use Rattle.st_journal_store.specs.Applying.{Applies}
use Rattle.st_journal_store.specs.Keeping.{Keeping, LeadTo, answered}
use Rattle.st_connection.specs.Streams.{Streams}

-- the exit status after a connection that ended so, where this is why a change was lost
abbrev pub status_after : Result Ended IoFault → Option Loss → ℕ
status_after (Ok Cut) loss = 3
status_after (Ok TurnsSpent) loss = 4
status_after (Ok Lost) (Some Disk) = 7
status_after (Ok Lost) loss = 6
status_after (Ok _) loss = 0
status_after (Err broken) loss = 5

-- The connection was served from this state, and the status says how it ended, and only so where it did. Each change that was answered
-- is kept, unless a change was lost, and then its answer was not written. Whatever is left if the process ends leads from the first
-- state to that after all that was kept, or after the lost change too. The disk is why a change was lost only where it failed or refused
-- more often than `begun`.
pub record ServesStored {J : Type 0} (journals : Ghosts J) (first : State Global) (begun : ℕ) (before : State Global) (s : Streams)
    (status : ℕ) : Type 0 where
  pub ended : Result Ended IoFault
  pub after : Keeping J
  pub served : ServedWithin Answers 0 before (answered after) after.kept s ended
  pub ends : EndsOn MAX_READS s ended
  pub kept : KeptUnlessLost after.kept (answered after) (is_some after.loss) ended
  pub stands : ended ≢ Ok Lost → journals.misreads after.journal ≡ 0 → Replays Applies first (journals.list after.journal) after.kept
  pub leaves : LeavesOnly journals after.journal (λ left. LeadTo first after.kept (answered after) left)
  pub disk : journals.misreads after.journal ≡ 0 → after.loss ≡ Some Disk → FaultsRise begun (journals.faults after.journal)
  pub status_is : status ≡ status_after ended after.loss

-- a journal was opened, and the connection was served from the state after its changes
pub record IsOpened {J : Type 0} (holds : List ℕ → List Record → Type 0) (journals : Ghosts J) (opening : List ℕ) (first : State Global)
    (s : Streams) (status : ℕ) : Type 0 where
  pub journal : J
  pub before : State Global
  pub found : journals.misreads journal ≡ 0 → holds opening (journals.list journal)
  pub made : journals.misreads journal ≡ 0 → Replays Applies first (journals.list journal) before
  pub serves : ServesStored journals first (journals.faults journal) before s status
