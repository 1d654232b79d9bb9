-- What comes of writing in the table, for which `st_journal_file` alone asks. What a journal promises of it, the clauses of `Journal` say.
use Rattle.std.specs.Prelude.{◌≡◌, ◌≢◌, ◌⊎◌, ◌<◌, ◌≤◌, ◌+◌, ℕ, Result, Err, List, ◌++◌, length, take, OnOk, OnErr}
use Rattle.sqlite_trees.specs.Tree.{Trees}
use Rattle.sqlite_trees.specs.View.{View, doubt, IsClean}
use Rattle.st_journal.specs.declared.record.Record.{Record}
use Rattle.st_journal.specs.declared.journal.AppendError.{AppendError}
use Rattle.st_journal.specs.declared.journal.AppendError.TheVariants.{NotKept, Unknown}
use Rattle.st_journal.specs.Faults.{FaultsRise}
use Rattle.st_journal_rows.specs.Table.{table_tree, records_in}
use Rattle.st_journal_rows.specs.Ready.{ListsTable, IsReady}

-- the database lists the table, which has a row
pub record HasTable (trees : Trees) : Type 0 where
  pub listed : ListsTable trees
  pub some : 0 < length (trees table_tree)

-- What comes of putting records behind the first `kept` of so many, in place of the others: all of it is done, or nothing.
pub record PutsBehind {S X : Type 0} (view : S → View) (faults : S → ℕ) (recovers : S → Trees → Type 0) (old new : S) (count kept : ℕ)
    (more : List Record) (result : Result X AppendError) : Type 0 where
  pub clean : doubt (view old).is_clean ≤ doubt (view new).is_clean
  pub counts : faults old ≤ faults new
  pub numbered : IsClean (view new) → (view new).is_numbered ≡ (view old).is_numbered
  pub ready : OnOk result (IsClean (view new) → IsReady (view new) (kept + length more))
  pub put : OnOk result (IsClean (view new) → records_in (view new).committed ≡ take kept (records_in (view old).committed) ++ more)
  pub goes_on : IsClean (view new) → result ≢ Err Unknown → OnErr result (IsReady (view new) count)
  pub not_kept : IsClean (view new) → result ≢ Err Unknown
      → OnErr result (records_in (view new).committed ≡ records_in (view old).committed)
  pub refused : IsClean (view new) → result ≡ Err NotKept → FaultsRise (faults old) (faults new)
  pub unknown : IsClean (view new) → result ≡ Err Unknown → FaultsRise (faults old) (faults new)
  -- what a crash leaves
  pub table : IsClean (view new) → (db : Trees) → recovers new db → HasTable db
  pub left : IsClean (view new) → (db : Trees) → recovers new db
      → (records_in db ≡ records_in (view old).committed) ⊎ (records_in db ≡ take kept (records_in (view old).committed) ++ more)
