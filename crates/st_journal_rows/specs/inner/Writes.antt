-- Stages of the code, which no reader has to believe: what is written in the table before a commit.
use Rattle.std.specs.Prelude.{◌≡◌, ◌≢◌, ℕ, ⊤, false, List, ◌++◌, length, take, Result, IfErr, OnOk}
use Rattle.sqlite_trees.specs.View.{View, HasCause, OnlyWrites}
use Rattle.sqlite_trees.specs.declared.error.StoreError.{StoreError}
use Rattle.st_journal.specs.Faults.{FaultsRise}
use Rattle.st_journal.specs.declared.record.Record.{Record}
use Rattle.st_journal_rows.specs.Table.{table_tree, numbered_rows}

-- Only the table differs. Where it had so many rows of records, it has these behind them.
pub record Adds (old new : View) (count : ℕ) (more : List Record) : Type 0 where
  pub frame : OnlyWrites old new
  pub others : (t : ℕ) → t ≢ table_tree → new.trees t ≡ old.trees t
  pub rows : (records : List Record) → length records ≡ count → old.trees table_tree ≡ numbered_rows 0 records
      → new.trees table_tree ≡ numbered_rows 0 (records ++ more)

-- Only the table differs. Where it had so many rows of records, it has so many of the first of them.
pub record Trims (old new : View) (count left : ℕ) : Type 0 where
  pub frame : OnlyWrites old new
  pub others : (t : ℕ) → t ≢ table_tree → new.trees t ≡ old.trees t
  pub rows : (records : List Record) → length records ≡ count → old.trees table_tree ≡ numbered_rows 0 records
      → new.trees table_tree ≡ numbered_rows 0 (take left records)

-- Only the table differs. Where it had so many rows of records, it has these behind the first `kept`.
pub record Replaces (old new : View) (count kept : ℕ) (more : List Record) : Type 0 where
  pub frame : OnlyWrites old new
  pub others : (t : ℕ) → t ≢ table_tree → new.trees t ≡ old.trees t
  pub rows : (records : List Record) → length records ≡ count → old.trees table_tree ≡ numbered_rows 0 records
      → new.trees table_tree ≡ numbered_rows 0 (take kept records ++ more)

-- The store was sound, and it still is where all was written. An error has its cause, where so many faults were counted before and after.
pub record Wrote {X : Type 0} (old new : View) (before after : ℕ) (written : Result X StoreError) : Type 0 where
  pub sound : old.is_broken ≡ false
  pub went : OnOk written (new.is_broken ≡ false)
  pub failed : IfErr written (HasCause old (FaultsRise before after) ⊤)
