-- What an opening finds in the files, and what it makes of the state.
use Rattle.std.specs.Prelude.{◌≡◌, ◌⊎◌, ℕ, ℤ, List, [], ◌∷◌}
use Rattle.sqlite_disk.specs.declared.start.Start as start
use Rattle.sqlite_wal.specs.Files.{image_at}
use Rattle.sqlite_wal.specs.Recovery.{Image}
use Rattle.sqlite_trees.specs.Tree.{Trees}
use Rattle.st_journal.specs.declared.record.Record.{Record}
use Rattle.st_journal.specs.Replays.{Replays}
use Rattle.st_journal_rows.specs.Table.{table_tree, records_in, opening_record}
use Rattle.st_journal_file.specs.Files.{HoldTrees, HoldNothing}

-- the files hold a journal of these changes, of a store that was opened so
pub record HoldJournal (image : Image) (opening : List ℕ) (changes : List Record) : Type 0 where
  pub trees : Trees
  pub hold : HoldTrees image trees
  pub time : ℤ
  pub records : records_in trees ≡ opening_record time opening ∷ changes

-- the files hold no database, or one without a row
abbrev pub HoldNoJournal : Image → Type 0
HoldNoJournal image = HoldNothing image ⊎ ((trees : Trees) × HoldTrees image trees × (trees table_tree ≡ []))

-- the files hold a journal of these changes, of a store that was opened so; or no journal, and there are no changes
abbrev pub HoldStore : Image → List ℕ → List Record → Type 0
HoldStore image opening changes = HoldJournal image opening changes ⊎ (HoldNoJournal image × (changes ≡ []))

-- what the files at any path hold when a run begins, where this is supposed of a crash before it
abbrev pub files_hold : {S : Type 0} → start.Ghosts S → (path opening : List ℕ) → List Record → Type 0
files_hold first path = HoldStore (image_at first)

-- The changes are those that the files hold. They were applied to the state.
pub record Opens {S : Type 0} (applies : S → Record → S → Type 0) (image : Image) (opening : List ℕ) (changes : List Record)
    (before after : S) : Type 0 where
  pub found : HoldStore image opening changes
  pub made : Replays applies before changes after
