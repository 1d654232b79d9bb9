-- What making the list of a store short leaves.
use Rattle.std.specs.Prelude.{◌≡◌, ℕ, List, length}
use Rattle.std.specs.declared.alloc.Global.{Global}
use Rattle.st_dir.specs.Directory.{Directory}
use Rattle.st_core.specs.State.{State}
use Rattle.st_journal.specs.declared.record.Record.{Record}
use Rattle.st_journal.specs.Replays.{Replays}
use Rattle.st_journal_store.specs.Applying.{Applies}
use Rattle.st_journal_compact.specs.Shortening.{IsShortList}
use Rattle.st_journal_compact.specs.Watching.{IsWatched, Watched}
use Rattle.st_store_file.specs.declared.counts.ListLengths.{ListLengths}

-- a list of so many records has a short list of so many, by this directory
pub record AreCounted (d : Directory Global) (old short : List Record) (counts : ListLengths) : Type 0 where
  pub is_short : IsShortList d old short
  pub before : counts.before ≡ length old
  pub after : counts.after ≡ length short

-- the same by the directory from which the records made this
abbrev pub AreCountedBy : Watched → (old short : List Record) → ListLengths → Type 0
AreCountedBy after old short counts = (first : Watched) → IsWatched first old after → AreCounted first.state.directory old short counts

abbrev pub IsShortBy : Watched → (old short : List Record) → Type 0
IsShortBy after old short = (first : Watched) → IsWatched first old after → IsShortList first.state.directory old short

-- The files held a list of a store that was opened so. The list that is there now is its short list, and leads to the same state.
pub record IsShortened (holds : List ℕ → List Record → Type 0) (opening : List ℕ) (first : State Global) (list : List Record)
    (counts : ListLengths) : Type 0 where
  pub old : List Record
  pub held : holds opening old
  pub counted : AreCounted first.directory old list counts
  pub after : State Global
  pub was : Replays Applies first old after
  pub is : Replays Applies first list after
