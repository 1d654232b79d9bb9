-- Pages and nodes as clauses see them, and how many keys and children they have.
use Rattle.std.specs.Prelude.{ℕ, ◌≤◌, List, [], ◌∷◌, length}
use Rattle.std.specs.List.{All, flat_map}
use Rattle.st_index.specs.declared.row.Row.{Row}
use Rattle.st_index.specs.inner.Entries.{EntryValue, rows_of}

-- a page: the first key of its region, and its entries
pub record PageValue (A : Type 0) : Type 0 where
  pub first : ℕ
  pub entries : List (EntryValue A)

-- a node: its first key, its height above the pages, how many entries or children it has, and how many each node under
-- it has, the pages under it, and for each page how many nodes are split where it is: the page, and those over it that
-- are full, one after the other
pub record NodeValue (A : Type 0) : Type 0 where
  pub first : ℕ
  pub height : ℕ
  pub width : ℕ
  pub widths : List ℕ
  pub pages : List (PageValue A)
  pub chains : List ℕ

abbrev pub entries_of_pages : {A : Type 0} → List (PageValue A) → List (EntryValue A)
entries_of_pages {A} = flat_map (λ (p : PageValue A). p.entries)

abbrev pub rows_of_pages : {A : Type 0} → List (PageValue A) → List (Row A)
rows_of_pages ps = rows_of (entries_of_pages ps)

-- a page beside others has 16 to 32 keys
pub record IsFilled {A : Type 0} (p : PageValue A) : Type 0 where
  pub not_less : 16 ≤ length p.entries
  pub not_more : length p.entries ≤ 32

-- so many entries or children a node that is not the root may have
pub record IsWide (width : ℕ) : Type 0 where
  pub not_less : 16 ≤ width
  pub not_more : width ≤ 32

-- a page holds at most 32 keys, and at least 16 unless it is the only one
pub record AreFilled {A : Type 0} (pages : List (PageValue A)) : Type 0 where
  pub not_more : All (λ (p : PageValue A). length p.entries ≤ 32) pages
  pub not_less : 2 ≤ length pages → All IsFilled pages

-- a page alone, as clauses see it
abbrev pub page_node : {A : Type 0} → ℕ → ℕ → List (EntryValue A) → NodeValue A
page_node first height es = record {
  first = first;
  height = height;
  width = length es;
  widths = [];
  pages = record { first = first; entries = es } ∷ [];
  chains = 1 ∷ [];
}
