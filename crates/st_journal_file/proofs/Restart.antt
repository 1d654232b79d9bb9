-- What a crash leaves is what the next opening finds.
use Rattle.std.proofs.Common.{◌≡◌, inl, inr, ℕ, ◌≤◌, ◌+◌, ◌*◌, pos, Bool, true, false, ◌&&◌, if◌then◌else◌, IsTrue, Some, List, [], ◌∷◌, ◌++◌, map}
use Rattle.std.proofs.Common.{drop, length, get_or, codes, refl, sym, ap, ap₂, subst, ◌∙◌, arith}
use Rattle.std.proofs.Math.Logic.{∥∥₁_elim, ∥∥₁_map}
use Rattle.std.proofs.lemmas.Bool.{cases_eq}
use Rattle.std.proofs.lemmas.Grind.{not_there}
use Rattle.sqlite_disk.specs.declared.Disk.{Ghosts}
use Rattle.sqlite_value.specs.declared.value.Value.{Value}
use Rattle.sqlite_value.specs.declared.value.Value.TheVariants.{Int, Text}
use Rattle.sqlite_value.specs.Order.{Row, column}
use Rattle.sqlite_wal.specs.Format.{be32}
use Rattle.sqlite_wal.specs.Recovery as raw
use Rattle.sqlite_wal.specs.Recovery.{Image, IsIgnored}
use Rattle.sqlite_wal.proofs.RecoveryLemmas as below
use Rattle.sqlite_pages.specs.PageMap.{PageMap}
use Rattle.sqlite_pool.specs.Pool.{state as pool_state}
use Rattle.sqlite_pool.specs.File.{IsSoundFile, in_use, version_in}
use Rattle.sqlite_pool.specs.Stored.{Recovers, Adopts, stored_size, reserved}
use Rattle.sqlite_pool.specs.StoredLaws.{recovers_once}
use Rattle.sqlite_pool.proofs.ResealLemmas.{adopts_of}
use Rattle.sqlite_pool.proofs.ProbeLemmas.{size_by_log, size_by_file, not_blank, reserved_word}
use Rattle.sqlite_trees.specs.declared.store.Shape.{Shape}
use Rattle.sqlite_trees.specs.declared.store.Shape.TheVariants.{Table}
use Rattle.sqlite_trees.specs.Tree.{Trees}
use Rattle.sqlite_trees.specs.Props.{rows_set}
use Rattle.sqlite_store.specs.declared.catalog.Wanted.{Wanted}
use Rattle.sqlite_store.specs.declared.store.FileStore.{FileStore}
use Rattle.sqlite_store.specs.Catalog.{same_value, is_present, is_about, describes, page_number, root_in}
use Rattle.sqlite_store.specs.Db.{rows_at, roots_of, shown, thawed, trees_in}
use Rattle.sqlite_store.specs.Listing.{IsOurs, file_trees, all_trees, listed, listed_from}
use Rattle.sqlite_store.specs.Listed.{same_listing, catalog_rows}
use Rattle.sqlite_store.specs.FileStore.{state, schema_in, reading, recovers}
use Rattle.sqlite_store.proofs.ListingLemmas.{named_tree, past_version, named_shape}
use Rattle.st_journal.specs.declared.record.Record.{Record}
use Rattle.st_journal_rows.specs.Table.{table_tree, record_in, changes_in}
use Rattle.st_journal_rows.specs.Table.{table_text, schema}
use Rattle.st_journal_file.specs.Files.{HoldNothing}
use Rattle.st_journal_file.specs.Opening.{HoldNoJournal, Opens}
use Rattle.st_journal_rows.specs.inner.Putting.{HasTable}

-- ---- one image has one page size

reserves_apart : (a x b y : ℕ) → a + x ≡ b + y → x * 0x100_0000 + 0x0040_2020 ≡ y * 0x100_0000 + 0x0040_2020 → a ≡ b
reserves_apart a x b y sums words = omega (arith, sums, words)

module _ (image : Image) (a b : ℕ) (p q : PageMap) (x : Adopts a image p) (y : Adopts b image q) (large_a : 504 ≤ a) (large_b : 504 ≤ b) (sound_a : IsSoundFile a p)
    (sound_b : IsSoundFile b q) where
  once_stored : stored_size a ≡ stored_size b → a ≡ b
  once_stored same =
      let first = reserved_word a image p x large_a sound_a in
      let other = reserved_word b image q y large_b sound_b in
      let pages : x.stored ≡ y.stored =
      below.recovers_once (stored_size b) image x.stored y.stored (subst (λ n. raw.Recovers n image x.stored) same x.found) y.found in
      let one : Some first.0 ≡ Some other.0 = sym first.1 ∙ ap (λ (s : PageMap). s 1) pages ∙ other.1 in
      let page : first.0 ≡ other.0 = cc in
      reserves_apart a (reserved a) b (reserved b) same (sym first.3 ∙ ap (λ (f : List ℕ). be32 f 20) page ∙ other.3)

  one_size : a ≡ b
  one_size = elim (cases_eq (stored_size a) (stored_size b)) [
    | inl same ↦ once_stored same
    | inr other ↦
        let read = λ (seen : ¬ IsIgnored image.log). other (sym (size_by_log a image p x seen) ∙ size_by_log b image q y seen) in
        absurd (read (λ ignored. other (sym (size_by_file a image p x large_a sound_a ignored) ∙ size_by_file b image q y large_b sound_b ignored)))
  ]

-- ---- a schema that lists the table alone reads it alike

-- what the list of objects says of the table
record IsOurTable (w : Wanted) : Type 0 where
  shape : w.shape ≡ Table
  reals : w.reals ≡ 0
  kind : column w.row 0 ≡ Text (codes "table")
  name : column w.row 1 ≡ Text (codes "changes")
  table : column w.row 2 ≡ Text (codes "changes")
  sql : column w.row 3 ≡ Text table_text

abbrev ours : Wanted
ours = get_or schema 0 (record { shape = Table; reals = 0; row = [] })

listed_first : (w : Wanted) (rest : List Wanted) → listed_from 0 (w ∷ rest) ≡ listed_from 0 schema → IsOurTable w
listed_first w rest same =
    let shape : w.shape ≡ Table =
    sym (named_shape 0 (omega arith) (w ∷ rest)) ∙ ap (λ s. s 0) (same_listing (w ∷ rest) schema same).0 ∙ named_shape 0 (omega arith) schema in
    let now = sym (ap (λ s. listed 0 w s ++ listed_from 1 rest) shape) ∙ same in
    let cell = λ (k : ℕ). ap (λ (rows : List Row). column (get_or rows 0 []) k) now in
    let real : Int (pos w.reals) ≡ Int (pos 0) = cell 6 in
    record { shape = shape; reals = cc; kind = cell 1; name = cell 2; table = cell 3; sql = cell 4 }

-- whether an entry of sqlite_schema describes a tree of this shape and this description
tests : Shape → Value → Value → Value → Value → Row → Bool
tests shape kind name table sql entry =
    is_present shape && same_value (column entry 1) kind && same_value (column entry 2) name && same_value (column entry 3) table && same_value (column entry 5) sql

tested : (w : Wanted) (entry : Row) → describes w entry ≡ tests w.shape (column w.row 0) (column w.row 1) (column w.row 2) (column w.row 3) entry
unfolding describes is_about tests
tested w entry = refl

described : (w : Wanted) → IsOurTable w → (entry : Row) → describes w entry ≡ describes ours entry
described w is entry = tested w entry ∙ rw (is.shape, is.kind, is.name, is.table, is.sql) refl ∙ sym (tested ours entry)

roots_alike : (w : Wanted) → IsOurTable w → (entries : List Row) → root_in entries w ≡ root_in entries ours
roots_alike w is [] = refl
roots_alike w is (entry ∷ entries) = ap₂ (λ found root. if found then page_number (column entry 4) else root) (described w is entry) (roots_alike w is entries)

rows_read : ℕ → PageMap → Shape → ℕ → ℕ → List Row
rows_read size pages shape reals root = map (shown (thawed shape) reals) (rows_at size pages (thawed shape) root)

first_read : (size : ℕ) (w : Wanted) (rest : List Wanted) (pages : PageMap)
    → trees_in size (w ∷ rest) pages 0 ≡ rows_read size pages w.shape w.reals (root_in (rows_at size pages Table 1) w)
unfolding trees_in roots_of rows_read
first_read size w rest pages = refl

tree_alike : (size : ℕ) (w : Wanted) (rest : List Wanted) (pages : PageMap) → IsOurTable w → trees_in size (w ∷ rest) pages 0 ≡ trees_in size schema pages 0
tree_alike size w rest pages is =
    let entries = rows_at size pages Table 1 in
    first_read size w rest pages
    ∙ ap (λ s. rows_read size pages s w.reals (root_in entries w)) is.shape
    ∙ ap (λ n. rows_read size pages Table n (root_in entries w)) is.reals
    ∙ ap (rows_read size pages Table 0) (roots_alike w is entries)
    ∙ sym (first_read size ours [] pages)

read_alike : (size : ℕ) (a : List Wanted) (pages : PageMap) → listed_from 0 a ≡ listed_from 0 schema
    → file_trees size a pages table_tree ≡ file_trees size schema pages table_tree
read_alike size [] pages same = absurd (cc)
read_alike size (w ∷ rest) pages same =
    let live = in_use size pages in
    let plain = λ (s : List Wanted).
    past_version 0 (omega arith) (all_trees size s live) (version_in pages) ∙ named_tree 0 (omega arith) size s live in
    plain (w ∷ rest) ∙ tree_alike size w rest live (listed_first w rest same) ∙ sym (plain schema)

some_entry : (present : Bool) (x : Row) (xs ys : List Row) → present ≡ true → (if present then x ∷ xs else ys) ≡ [] → ⊥
some_entry true x xs ys is none = absurd (cc)
some_entry false x xs ys is none = absurd (cc)

lists_some : (size : ℕ) (numbered : Bool) (a : List Wanted) (pages : PageMap) → IsTrue numbered → listed_from 0 a ≡ listed_from 0 schema → IsOurs size numbered a pages
    → rows_at size (in_use size pages) Table 1 ≡ [] → ⊥
unfolding roots_of
lists_some size numbered [] pages is same file none = absurd (cc)
lists_some size numbered (w ∷ rest) pages is same file none =
    some_entry (is_present w.shape) _ _ _ (ap is_present (listed_first w rest same).shape) (sym (file.numbered is).listed ∙ none)

-- ---- the image

module _ {D : Type 0} {g : Ghosts D} (it : FileStore D g) (image : Image) where
  large : 504 ≤ (state it).page_size
  unfolding pool_state
  large = omega (arith, it.pool.sized, it.pool.large)

  -- the pages that the image stands for
  record Left (p : PageMap) : Type 0 where
    found : Recovers (state it).page_size image p
    file : IsOurs (state it).page_size it.is_numbered (schema_in it p) p
    table : HasTable (reading it p)

  -- the same, where they have the size that an opening supposes
  record Agrees (p : PageMap) : Type 0 where
    left : Left p
    size : (state it).page_size ≡ 4096
    listed : listed_from 0 (schema_in it p) ≡ listed_from 0 schema

  module _ (may : (state it).may_leave image) (numbered : IsTrue it.is_numbered) (lasting : (db : Trees) → recovers it db → HasTable db) where
    some_left : ∥ ((p : PageMap) × Left p) ∥₁
    some_left = ∥∥₁_elim it.safe squash₁ (λ all.
        let found = all image may in
        let table = lasting (reading it found.0) (image, found.0, may, ∣ found.1 ∣₁, refl) in
        ∥∥₁_map found.2 (λ file. (found.0, record { found = found.1; file = file; table = table })))

    agrees : (q : PageMap) → Recovers 4096 image q → ∥ IsSoundFile 4096 q ∥₁ → ∥ Agrees q ∥₁
    agrees q found sound = ∥∥₁_elim some_left squash₁ (λ left. ∥∥₁_map sound (λ is.
        let p = left.0 in
        let l = left.1 in
        let size = one_size image (state it).page_size 4096 p q (adopts_of _ image p l.found) (adopts_of 4096 image q found) large (omega arith) l.file.file.sound is in
        let same : p ≡ q = recovers_once 4096 image p q (subst (λ n. Recovers n image p) size l.found) found in
        subst Agrees same (record { left = l; size = size; listed = sym (catalog_rows (state it).page_size (schema_in it p) _) ∙ l.table.listed })))

    -- the trees that an opening finds are those of the store
    read_so : (q : PageMap) → Recovers 4096 image q → ∥ IsOurs 4096 true schema q ∥₁ → reading it q table_tree ≡ file_trees 4096 schema q table_tree
    read_so q found file = ∥∥₁_elim (agrees q found (∥∥₁_map file (λ f. f.file.sound))) (rows_set _ _) (λ a.
        ap (λ n. file_trees n (schema_in it q) q table_tree) a.size ∙ read_alike 4096 (schema_in it q) q a.listed)

    recovered : (q : PageMap) → Recovers 4096 image q → ∥ IsSoundFile 4096 q ∥₁ → ∥ Recovers (state it).page_size image q ∥₁
    recovered q found sound = ∥∥₁_map (agrees q found sound) (λ a. a.left.found)

    -- an opening does not take the files for empty
    not_nothing : HoldNothing image → ⊥
    not_nothing (inl blank) = not_there some_left (λ left.
        not_blank (state it).page_size image left.0 (adopts_of _ image left.0 left.1.found) large left.1.file.file.sound 4096 (omega arith) blank)
    not_nothing (inr (q, found, sound, none)) = not_there (agrees q found sound) (λ a.
        lists_some 4096 it.is_numbered (schema_in it q) q numbered a.listed (subst (λ n. IsOurs n it.is_numbered (schema_in it q) q) a.size a.left.file) none)

    not_none : HoldNoJournal image → ⊥
    not_none (inl nothing) = not_nothing nothing
    not_none (inr (trees, (q, found, file, reads), none)) =
        let rows : reading it q table_tree ≡ [] = read_so q found file ∙ sym (ap (λ (t : Trees). t table_tree) reads) ∙ none in
        not_there (agrees q found (∥∥₁_map file (λ f. f.file.sound))) (λ a. omega (arith, a.left.table.some, ap length rows))

    pub finds : {S : Type 0} (applies : S → Record → S → Type 0) (opening : List ℕ) (changes : List Record) (before after : S)
        → Opens applies image opening changes before after → (db : Trees) × recovers it db × (changes ≡ changes_in db)
    finds applies opening changes before after opens = elim opens.found [
      | inl journal ↦
          let q = journal.hold.0 in
          let found = journal.hold.1 in
          let file = journal.hold.2 in
          let rows = ap (λ (t : Trees). t table_tree) journal.hold.3 ∙ sym (read_so q found file) in (
            reading it q,
            (image, q, may, recovered q found (∥∥₁_map file (λ f. f.file.sound)), refl),
            ap (drop 1) (sym journal.records) ∙ ap (λ (r : List Row). drop 1 (map record_in r)) rows,
          )
      | inr none ↦ absurd (not_none none.0)
    ]
