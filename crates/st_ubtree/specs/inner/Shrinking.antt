-- A stage of the code, which no reader has to believe: what taking out a row does to a node.
use Rattle.std.specs.Prelude.{◌≡◌, ℕ, ◌+◌, ◌<◌, ◌≤◌, List, [], ◌∷◌, ◌++◌, length, Option, Some, None}
use Rattle.std.specs.List.{All}
use Rattle.st_key.specs.declared.period.Period.{Period}
use Rattle.st_index.specs.declared.row.Row.{Row}
use Rattle.st_index.specs.inner.Entries.{Name, EntryValue, rank_of}
use Rattle.st_index.specs.inner.Index.{Adds, IsAbsent}
use Rattle.st_tally.specs.inner.Pages.{PageValue, NodeValue, entries_of_pages, rows_of_pages}
use Rattle.st_ubtree.specs.inner.Kids.{HeadAt, AreWide, IsKid, Spans, Starts, pages_of}

-- the same entries in pages between the same bounds
pub record Reshapes {A : Type 0} (old new : List (PageValue A)) : Type 0 where
  pub entries : entries_of_pages new ≡ entries_of_pages old
  pub spans : (period : Period) (lo hi : ℕ) → Spans period lo hi old → Spans period lo hi new

-- new pages hold one row less, that of the key, between the same bounds
pub record DropsFrom {A : Type 0} (key : ℕ) (row : Row A) (old new : List (PageValue A)) : Type 0 where
  pub adds : Adds row (rows_of_pages new) (rows_of_pages old)
  pub spans : (period : Period) (lo hi : ℕ) → Spans period lo hi old → Spans period lo hi new
  pub placed : (period : Period) (lo hi : ℕ) → Spans period lo hi old → rank_of period row ≡ key

pub record Shrinks {A : Type 0} (key : ℕ) (row : Row A) (old new : NodeValue A) : Type 0 where
  pub first : new.first ≡ old.first
  pub height : new.height ≡ old.height
  pub starts : Starts old.first old.pages old.chains → Starts new.first new.pages new.chains
  pub shorter : new.width ≤ old.width
  pub at_most_one : old.width ≤ new.width + 1
  pub filled : 16 ≤ new.width → AreWide new.pages new.widths
  pub by : DropsFrom key row old.pages new.pages

-- no row of the key has the name
abbrev pub HasNone : {A : Type 0} → ℕ → Name → List (PageValue A) → Type 0
HasNone key name pages = (period : Period) (lo hi : ℕ) → Spans period lo hi pages → lo ≤ key → key < hi
    → IsAbsent period key name (rows_of_pages pages)

-- a child that a row was taken from, which may have 15 entries or children
pub record IsWorn {A : Type 0} (height : ℕ) (v : NodeValue A) : Type 0 where
  pub same_height : v.height ≡ height
  pub not_less : 15 ≤ v.width
  pub not_more : v.width ≤ 32
  pub starts : Starts v.first v.pages v.chains
  pub filled : 16 ≤ v.width → AreWide v.pages v.widths

-- all children but one are as they must be, and that one may be worn
pub record AreWorn {A : Type 0} (height at : ℕ) (kids : List (NodeValue A)) : Type 0 where
  pub front : List (NodeValue A)
  pub kid : NodeValue A
  pub back : List (NodeValue A)
  pub is : kids ≡ front ++ kid ∷ back
  pub stands : length front ≡ at
  pub in_front : All (IsKid height) front
  pub worn : IsWorn height kid
  pub behind : All (IsKid height) back

-- all children are as they must be, over the same rows
pub record Mends {A : Type 0} (height : ℕ) (old new : List (NodeValue A)) : Type 0 where
  pub each : All (IsKid height) new
  pub head : (first : ℕ) → HeadAt first old → HeadAt first new
  pub shorter : length new ≤ length old
  pub at_most_one : length old ≤ length new + 1
  pub by : Reshapes (pages_of old) (pages_of new)

-- what stays of two lists of entries beside the first of them, as a page of its own
abbrev pub IsPageOf : {A : Type 0} → List (EntryValue A) → Option (NodeValue A) → Type 0
IsPageOf rest None = rest ≡ []
IsPageOf {A} rest (Some s) = IsKid 0 s
    × ((e : EntryValue A) × (es : List (EntryValue A)) × (rest ≡ e ∷ es) × (s.pages ≡ record { first = e.at; entries = rest } ∷ []))

pub record PagesJoin {A : Type 0} (old right new : List (EntryValue A)) (r : Option (NodeValue A)) : Type 0 where
  pub rest : List (EntryValue A)
  pub kept : new ++ rest ≡ old ++ right
  pub not_less : 16 ≤ length new
  pub not_more : length new ≤ 32
  pub beside : IsPageOf rest r

-- the same for children
abbrev pub IsNodeOf : {A : Type 0} → ℕ → List (NodeValue A) → Option (NodeValue A) → Type 0
IsNodeOf height rest None = rest ≡ []
IsNodeOf height rest (Some s) = IsKid height s × (s.pages ≡ pages_of rest)

pub record KidsJoin {A : Type 0} (height : ℕ) (old right new : List (NodeValue A)) (r : Option (NodeValue A)) : Type 0 where
  pub rest : List (NodeValue A)
  pub kept : new ++ rest ≡ old ++ right
  pub not_less : 16 ≤ length new
  pub not_more : length new ≤ 32
  pub beside : IsNodeOf height rest r

-- the pages of a node, and of none
abbrev pub pages_beside : {A : Type 0} → Option (NodeValue A) → List (PageValue A)
pages_beside None = []
pages_beside (Some s) = s.pages

abbrev pub IsKidBeside : {A : Type 0} → ℕ → Option (NodeValue A) → Type 0
IsKidBeside height None = Unit {0}
IsKidBeside height (Some s) = IsKid height s

-- two children side by side become one or two
pub record Joins {A : Type 0} (height : ℕ) (old right new : NodeValue A) (r : Option (NodeValue A)) : Type 0 where
  pub first : new.first ≡ old.first
  pub kid : IsKid height new
  pub beside : IsKidBeside height r
  pub by : Reshapes (old.pages ++ right.pages) (new.pages ++ pages_beside r)
