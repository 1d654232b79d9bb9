-- An invariant of a representation, which no reader has to believe: what a node is seen as, and what holds of it.
use Rattle.std.specs.Prelude.{◌≡◌, ℕ, ◌+◌, ◌≤◌, List, [], ◌∷◌, length, vec_capacity}
use Rattle.std.specs.List.{All}
use Rattle.st_index.specs.declared.row.Row.{Row}
use Rattle.st_index.specs.inner.Entries.{rows_of}
use Rattle.st_ubtree.specs.declared.node.Kids.{Kids}
use Rattle.st_ubtree.specs.declared.node.Kids.TheVariants.{Page, Inner}
use Rattle.st_tally.specs.inner.Pages.{PageValue, NodeValue, rows_of_pages}
use Rattle.st_ubtree.specs.inner.Kids.{IsKid, pages_of, widths_of, HeadAt}
use Rattle.st_tally.specs.inner.Marks.{AreMarked}
use Rattle.st_ubtree.specs.inner.Splits.{chains_of}

abbrev pub width_of : {A : Type 0} → Kids A → ℕ
width_of (Page entries) = length entries.items
width_of (Inner kids aside) = length kids.items

abbrev pub widths_under : {A : Type 0} → Kids A → List ℕ
widths_under (Page entries) = []
widths_under (Inner kids aside) = widths_of kids.items

abbrev pub pages_under : {A : Type 0} → ℕ → Kids A → List (PageValue A)
pages_under first (Page entries) = record { first = first; entries = entries.items } ∷ []
pages_under first (Inner kids aside) = pages_of kids.items

-- the rows below it
abbrev pub rows_under : {A : Type 0} → Kids A → List (Row A)
rows_under (Page entries) = rows_of entries.items
rows_under (Inner kids aside) = rows_of_pages (pages_of kids.items)

-- the marks of the pages below it
abbrev pub AreMarkedUnder : {A : Type 0} → Kids A → Type 0
AreMarkedUnder (Page entries) = Unit {0}
AreMarkedUnder (Inner kids aside) = AreMarked aside.value.marks kids.items

abbrev pub chains_under : {A : Type 0} → Kids A → List ℕ
chains_under (Page entries) = 1 ∷ []
chains_under (Inner kids aside) = chains_of kids.items

abbrev pub node_value : {A : Type 0} → ℕ → ℕ → Kids A → NodeValue A
node_value first height kids = record {
  first = first;
  height = height;
  width = width_of kids;
  widths = widths_under kids;
  pages = pages_under first kids;
  chains = chains_under kids;
}

-- a node over children, as clauses see it
abbrev pub inner_node : {A : Type 0} → ℕ → ℕ → List (NodeValue A) → NodeValue A
inner_node first height kids = record {
  first = first;
  height = height;
  width = length kids;
  widths = widths_of kids;
  pages = pages_of kids;
  chains = chains_of kids;
}

pub record IsPageNode (height len capacity : ℕ) : Type 0 where
  pub lowest : height ≡ 0
  pub not_more : len ≤ 32
  pub room : 33 ≤ capacity

pub record IsInnerNode {A : Type 0} (first height : ℕ) (kids : List (NodeValue A)) (capacity : ℕ) : Type 0 where
  pub below : ℕ
  pub higher : height ≡ below + 1
  pub each : All (IsKid below) kids
  pub head : HeadAt first kids
  pub not_less : 1 ≤ length kids
  pub not_more : length kids ≤ 32
  pub room : 33 ≤ capacity

abbrev pub IsNode : {A : Type 0} → ℕ → ℕ → Kids A → Type 0
IsNode first height (Page entries) = IsPageNode height (length entries.items) (vec_capacity entries)
IsNode first height (Inner kids aside) = IsInnerNode first height kids.items (vec_capacity kids)
