-- The store of two files, and what these hold.
use Rattle.std.proofs.Common.{◌≡◌, ℕ, ◌<◌, IsTrue, IfOk, Ok, Err, Result, List, [], ◌∷◌, length, refl, sym, ap, ap₂, subst, ◌∙◌, arith}
use Rattle.std.proofs.Math.Logic.{∥∥₁_map}
use Rattle.sqlite_disk.specs.declared.Disk.{Ghosts}
use Rattle.sqlite_wal.specs.Recovery.{Image}
use Rattle.sqlite_wal.specs.Files.{seen_image}
use Rattle.sqlite_wal.specs.Reads.{are_clean, OnlyReads}
use Rattle.sqlite_wal.proofs.RecoveryLemmas.{recovers_once}
use Rattle.sqlite_pages.specs.PageMap.{PageMap}
use Rattle.sqlite_pool.specs.declared.pool.Pool.{Pool}
use Rattle.sqlite_pool.specs.Pool.{state, files}
use Rattle.sqlite_pool.specs.Stored.{Recovers, stored_size, trimmed}
use Rattle.sqlite_trees.specs.View.{IsClean}
use Rattle.sqlite_trees.proofs.Doubt.{clean_of}
use Rattle.sqlite_store.specs.declared.store.FileStore.{FileStore}
use Rattle.sqlite_store.specs.Saved.{kept_schema}
use Rattle.sqlite_store.specs.Listing.{IsOurs, all_shapes, file_trees, listed_from}
use Rattle.sqlite_store.specs.Listed.{catalog_rows}
use Rattle.sqlite_store.specs.FileStore.{view, schema_of, IsReady}
use Rattle.sqlite_store.specs.FileStore as store
use Rattle.st_journal_rows.specs.Table.{schema}
use Rattle.st_journal_file.specs.Files.{HoldTrees}
use Rattle.st_journal_rows.specs.OpenedTable.{IsAtRest}

pub same_pages : (size : ℕ) (image : Image) (p q : PageMap) → Recovers size image p → Recovers size image q → p ≡ q
same_pages size image p q a b =
    sym a.shows ∙ ap (trimmed size) (recovers_once (stored_size size) image a.stored b.stored a.found b.found) ∙ b.shows

-- what one image holds another does, if both recover to the same pages
pub holds_before : (before now : Image) (pages : PageMap) (trees : _) → Recovers 4096 before pages → Recovers 4096 now pages → HoldTrees now trees → HoldTrees before trees
holds_before before now pages trees was is (p, found, ours, reads) =
    (p, subst (Recovers 4096 before) (same_pages 4096 now pages p is found) was, ours, reads)

module _ {D : Type 0} {g : Ghosts D} where
  pub clean_files : (it : Pool D g) → (state it).is_clean ≡ are_clean g (files it).0 (files it).1
  unfolding state files
  clean_files it = refl

  pub seen_same : (log log_now db db_now : D) → OnlyReads g log log_now → OnlyReads g db db_now → seen_image g log_now db_now ≡ seen_image g log db
  seen_same log log_now db db_now reads_log reads_db = ap₂ (λ a b. let i : Image = record { log = a; db = b } in i) reads_log.seen reads_db.seen

  pub rests : (it : FileStore D g) → IsReady it → IsTrue (view it).is_numbered → schema_of it ≡ schema → IsClean (view it) → IsAtRest (view it)
  rests it ready numbered schema_is clean = record {
    sound = ready.sound clean;
    numbered = numbered;
    listed = rw (clean_of (view it).is_clean clean) (catalog_rows _ it.schema.items _ ∙ ap (listed_from 0) schema_is);
    is_committed = ready.clean;
    shapes = sym (ap (λ saved. all_shapes (kept_schema saved it.schema.items)) ready.unaltered);
  }

  -- a store of the schema that was just opened
  pub holds : (it : FileStore D g) (image : Image) → IsReady it → IsClean (view it) → IsTrue (view it).is_numbered → schema_of it ≡ schema
      → (store.state it).page_size ≡ 4096 → Recovers 4096 image (store.state it).committed → HoldTrees image (view it).committed
  holds it image ready clean numbered schema_is size found =
      let kept : kept_schema it.saved it.schema.items ≡ schema = ap (λ saved. kept_schema saved it.schema.items) ready.unaltered ∙ schema_is in (
        (store.state it).committed,
        found,
        ∥∥₁_map (it.stored (ready.is_open clean)) (λ stored.
            let ours : IsOurs (store.state it).page_size it.is_numbered (kept_schema it.saved it.schema.items) (store.state it).committed = stored.ours in
            rw (size, kept, numbered) at ours),
        rw (clean_of (view it).is_clean clean)
            (ap (λ n. file_trees n (kept_schema it.saved it.schema.items) (store.state it).committed) size
            ∙ ap (λ s. file_trees 4096 s (store.state it).committed) kept),
      )

pub if_one : {X E : Type 0} {P R : X → Type 0} (r : Result X E) → ((x : X) → P x → R x) → IfOk r P → IfOk r R
if_one (Ok x) so h = so x h
if_one (Err e) so h = h

pub if_two : {X E : Type 0} {P Q R : X → Type 0} (r : Result X E) → ((x : X) → P x → Q x → R x) → IfOk r P → IfOk r Q → IfOk r R
if_two (Ok x) so h q = so x h q
if_two (Err e) so h q = h

pub nothing : {X : Type 0} (l : List X) → length l < 1 → l ≡ []
nothing [] few = refl
nothing (x ∷ l) few = absurd (omega (arith, few))
