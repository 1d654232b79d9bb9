-- A stage of the code, which no reader has to believe: what an opening reads in the table.
use Rattle.std.specs.Prelude.{◌≡◌, ◌<◌, ℕ, ℤ, List, [], ◌∷◌, length}
use Rattle.sqlite_trees.specs.View.{View}
use Rattle.st_journal.specs.declared.record.Record.{Record}
use Rattle.st_journal.specs.Replays.{Replays}
use Rattle.st_journal_rows.specs.Table.{table_tree, numbered_rows, opening_record}

module _ {S : Type 0} (applies : S → Record → S → Type 0) (opening : List ℕ) where
  -- the first record says this opening and changes nothing, and a later one is applied
  pub record Takes (count : ℕ) (change : Record) (before after : S) : Type 0 where
    pub first : count ≡ 0 → (time : ℤ) × (change ≡ opening_record time opening) × (after ≡ before)
    pub later : 0 < count → applies before change after

  -- the first says this opening, and the others are applied
  abbrev pub AreTaken : List Record → S → S → Type 0
  AreTaken [] before after = after ≡ before
  AreTaken (first ∷ changes) before after = (time : ℤ) × (first ≡ opening_record time opening) × Replays applies before changes after

  -- The rows of the table are records, so many of them, which are taken. Only cursors have moved.
  pub record Reads (old new : View) (count : ℕ) (before after : S) : Type 0 where
    pub records : List Record
    pub rows : old.trees table_tree ≡ numbered_rows 0 records
    pub counted : count ≡ length records
    pub taken : AreTaken records before after
    pub same : new ≡ record old { cursors = new.cursors }
