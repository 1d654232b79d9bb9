-- An invariant of a representation, which no reader has to believe: what holds of a tree, and the memory that one more row takes in it.
use Rattle.std.specs.Prelude.{◌≡◌, ℕ, ◌+◌, ◌^◌, ◌<◌, ◌≤◌, length, vec_capacity, None}
use Rattle.std.specs.List.{All}
use Rattle.st_key.specs.declared.period.Period.{Period}
use Rattle.st_index.specs.declared.row.Row.{Row}
use Rattle.st_index.specs.inner.Entries.{EntryValue, key_end, rank_of}
use Rattle.st_tally.specs.inner.Pages.{NodeValue, entries_of_pages, rows_of_pages, AreFilled}
use Rattle.st_ubtree.specs.inner.Kids.{Spans}
use Rattle.st_ubtree.specs.inner.Growing.{AreBlank, IsBlankPage, IsRoomFor}
use Rattle.st_ubtree.specs.inner.Splits.{made_nodes, splits}
use Rattle.st_ubtree.specs.declared.tree.UbSpare.{UbSpare}
use Rattle.st_ubtree.specs.inner.Trees.{TreeValue}

-- the pages hold the rows of all keys in order, at least 16 keys each unless one is alone, and an inner root has two
-- children or more
pub record IsTree {A : Type 0} (period : Period) (root : NodeValue A) (len : ℕ) : Type 0 where
  pub spans : Spans period 0 (key_end period) root.pages
  pub filled : AreFilled root.pages
  pub wide : 1 ≤ root.height → 2 ≤ root.width
  pub counted : len ≡ length (rows_of_pages root.pages)
  pub most : len < 2 ^ 64

-- the memory that one more row takes in a tree: a list for the rows of its key exactly where there are some, and a
-- page and nodes exactly where some are split
pub record HasTreeRoom {A : Type 0} (t : TreeValue A) (row : Row A) (spare : UbSpare A) : Type 0 where
  pub rows : IsRoomFor (rank_of t.period row) spare.rows.items (vec_capacity spare.rows) (entries_of_pages t.root.pages)
  pub no_rows : All (λ (e : EntryValue A). e.at ≡ rank_of t.period row → ⊥) (entries_of_pages t.root.pages) → vec_capacity spare.rows ≡ 0
  pub page : 1 ≤ splits t.root (rank_of t.period row) → IsBlankPage spare.page
  pub no_page : splits t.root (rank_of t.period row) ≡ 0 → spare.page ≡ None
  pub blank : AreBlank spare.inners.items
  pub inners : length spare.inners.items ≡ made_nodes t.root.height (splits t.root (rank_of t.period row))
  pub count : length (rows_of_pages t.root.pages) + 1 < 2 ^ 64
