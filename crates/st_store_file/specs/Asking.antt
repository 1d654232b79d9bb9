-- What the words of a command line ask of the list of a store, and what was done.
use Rattle.std.specs.Prelude.{◌≡◌, ℕ, List, [], Option, None, Some, codes, true, false}
use Rattle.std.specs.declared.alloc.Global.{Global}
use Rattle.clap.specs.Words.{App, fault_of}
use Rattle.st_text.specs.Texts.{Text}
use Rattle.st_core.specs.State.{State}
use Rattle.st_journal.specs.declared.record.Record.{Record}
use Rattle.st_journal.specs.declared.journal.Journal.{Ghosts}
use Rattle.st_journal.specs.Leaving.{LeavesOnly}
use Rattle.st_command_line.specs.Common.{SaysRoot, file_of, has_flag}
use Rattle.st_command_line.specs.declared.fault.Fault.{Fault}
use Rattle.st_command.specs.Opening.{OpensWith, IsOfStore}
use Rattle.st_store_file.specs.declared.counts.ListLengths.{ListLengths}
use Rattle.st_store_file.specs.Shortened.{IsShortened}

-- the words are a command line, and do not ask for a short list
pub record AsksNone (app : App) (words : List Text) : Type 0 where
  pub whole : fault_of app words ≡ []
  pub unasked : has_flag (codes "compact") app words ≡ false

-- the words ask for a short list of the store that they name, and open this state with this opening
pub record AsksShort (app : App) (words : List Text) (first : State Global) (opening : Text) : Type 0 where
  pub digits : Text
  pub names : List Text
  pub says : SaysRoot app words digits names
  pub asked : has_flag (codes "compact") app words ≡ true
  pub path : Text
  pub named : file_of (codes "store") app words ≡ Some path
  pub opens : OpensWith digits names first opening

-- what they ask for was done: whatever is left once the journal is let go is the short list
pub record IsDone {J : Type 0} (holds : List ℕ → List Record → Type 0) (journals : Ghosts J) (app : App) (words : List Text)
    (journal : J) : Type 0 where
  pub first : State Global
  pub opening : Text
  pub asks : AsksShort app words first opening
  pub counts : ListLengths
  pub shortened : journals.misreads journal ≡ 0 → IsShortened holds opening first (journals.list journal) counts
  pub leaves : LeavesOnly journals journal (λ left. left ≡ journals.list journal)

abbrev pub Shortens : {J : Type 0} → (List ℕ → List Record → Type 0) → Ghosts J → App → List Text → Option J → Type 0
Shortens holds journals app words None = AsksNone app words
Shortens holds journals app words (Some journal) = IsDone holds journals app words journal

-- what they ask for was not done, by a fault of the store
pub record IsNotDone (app : App) (words : List Text) (fault : Fault) : Type 0 where
  pub first : State Global
  pub opening : Text
  pub asks : AsksShort app words first opening
  pub why : IsOfStore fault
