-- What an opening finds in the table, and leaves there.
use Rattle.std.specs.Prelude.{◌≡◌, ◌⊎◌, ℕ, ℤ, false, List, [], ◌∷◌, IsTrue}
use Rattle.sqlite_trees.specs.View.{View}
use Rattle.st_journal.specs.declared.record.Record.{Record}
use Rattle.st_journal.specs.Replays.{Replays}
use Rattle.st_journal_rows.specs.Table.{table_tree, records_in, opening_record}
use Rattle.st_journal_rows.specs.Ready.{ListsTable, IsReady}

-- nothing is under way, and the table is listed
pub record IsAtRest (v : View) : Type 0 where
  pub sound : v.is_broken ≡ false
  pub numbered : IsTrue v.is_numbered
  pub listed : ListsTable v.trees
  pub is_committed : v.trees ≡ v.committed
  pub shapes : v.shape ≡ v.committed_shape

-- The table is a journal of this opening, which was found or, where there was no row, was begun. Its changes are applied.
pub record OpensTable {S : Type 0} (applies : S → Record → S → Type 0) (opening : List ℕ) (old new : View) (count : ℕ) (before after : S)
    : Type 0 where
  pub ready : IsReady new count
  pub time : ℤ
  pub changes : List Record
  pub records_are : records_in new.committed ≡ opening_record time opening ∷ changes
  pub made : Replays applies before changes after
  pub found : (new.committed table_tree ≡ old.committed table_tree) ⊎ ((old.committed table_tree ≡ []) × (changes ≡ []))
