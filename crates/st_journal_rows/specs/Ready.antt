-- A store that has the table.
use Rattle.std.specs.Prelude.{◌≡◌, ◌<◌, ℕ, false, List, length, IsTrue}
use Rattle.sqlite_trees.specs.declared.store.Shape.TheVariants.{Table}
use Rattle.sqlite_trees.specs.Tree.{Trees}
use Rattle.sqlite_trees.specs.Objects.{catalog_tree}
use Rattle.sqlite_trees.specs.View.{View}
use Rattle.sqlite_store.specs.Listing.{listed_from}
use Rattle.st_journal.specs.declared.record.Record.{Record}
use Rattle.st_journal_rows.specs.Table.{table_tree, numbered_rows, records_in, schema}

-- the database lists the table, and nothing else
abbrev pub ListsTable : Trees → Type 0
ListsTable trees = trees catalog_tree ≡ listed_from 0 schema

-- the transaction sees these records
pub record HasRows (v : View) (records : List Record) : Type 0 where
  pub sound : v.is_broken ≡ false
  pub numbered : IsTrue v.is_numbered
  pub listed : ListsTable v.trees
  pub shape : v.shape table_tree ≡ Table
  pub rows : v.trees table_tree ≡ numbered_rows 0 records

-- The store is open, nothing is under way, and it has so many records.
pub record IsReady (v : View) (count : ℕ) : Type 0 where
  pub is_open : IsTrue v.is_open
  pub is_committed : v.trees ≡ v.committed
  pub shapes : v.shape ≡ v.committed_shape
  pub rows : HasRows v (records_in v.trees)
  pub counted : count ≡ length (records_in v.trees)
  pub some : 0 < count
