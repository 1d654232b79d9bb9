-- A stage of the code, which no reader has to believe.
use Rattle.std.specs.Prelude.{◌≡◌, ◌⊎◌, []}
use Rattle.sqlite_wal.specs.Recovery.{Image}
use Rattle.sqlite_trees.specs.Tree.{Trees}
use Rattle.st_journal_rows.specs.Table.{table_tree}
use Rattle.st_journal_file.specs.Files.{HoldTrees, HoldNothing}

-- what an opening finds in the files
abbrev pub Finds : Image → Trees → Type 0
Finds image trees = HoldTrees image trees ⊎ (HoldNothing image × (trees table_tree ≡ []))
