-- What the two files of a journal, the log and the database file, stand for.
use Rattle.std.specs.Prelude.{◌≡◌, ◌⊎◌, true, []}
use Rattle.sqlite_wal.specs.Recovery.{Image}
use Rattle.sqlite_pages.specs.PageMap.{PageMap}
use Rattle.sqlite_pool.specs.Stored.{Recovers}
use Rattle.sqlite_pool.specs.Opening.{IsBlankFile}
use Rattle.sqlite_pool.specs.File.{IsSoundFile, in_use}
use Rattle.sqlite_trees.specs.declared.store.Shape.TheVariants.{Table}
use Rattle.sqlite_trees.specs.Tree.{Trees}
use Rattle.sqlite_store.specs.Db.{rows_at}
use Rattle.sqlite_store.specs.Listing.{IsOurs, file_trees}
use Rattle.st_journal_rows.specs.Table.{schema}

-- the files recover to a database of this schema, with pages of 4,096 bytes, which reads as these trees
abbrev pub HoldTrees : Image → Trees → Type 0
HoldTrees image trees =
    (pages : PageMap) × Recovers 4096 image pages × ∥ IsOurs 4096 true schema pages ∥₁ × (trees ≡ file_trees 4096 schema pages)

-- there is no database yet, or one with a valid header and no row in its schema
abbrev pub HoldNothing : Image → Type 0
HoldNothing image =
    IsBlankFile 4096 image
    ⊎ ((pages : PageMap) × Recovers 4096 image pages × ∥ IsSoundFile 4096 pages ∥₁ × (rows_at 4096 (in_use 4096 pages) Table 1 ≡ []))
