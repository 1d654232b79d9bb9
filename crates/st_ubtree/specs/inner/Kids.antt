-- An invariant of a representation, which no reader has to believe: pages and children that follow each other.
use Rattle.std.specs.Prelude.{◌≡◌, ℕ, ◌<◌, ◌≤◌, List, [], ◌∷◌, length}
use Rattle.std.specs.List.{All, flat_map}
use Rattle.st_key.specs.declared.period.Period.{Period}
use Rattle.st_index.specs.declared.row.Row.{Row}
use Rattle.st_index.specs.inner.Entries.{name_of, EntriesRise, rank_of}
use Rattle.st_index.specs.inner.Index.{Adds, IsAbsent}
use Rattle.st_tally.specs.inner.Pages.{PageValue, IsFilled, NodeValue, rows_of_pages, IsWide}

-- the pages' regions follow each other from lo to just below hi, and each page's entries rise inside its own
abbrev pub Spans : {A : Type 0} → Period → ℕ → ℕ → List (PageValue A) → Type 0
Spans period lo hi [] = lo ≡ hi
Spans period lo hi (p ∷ ps) = (p.first ≡ lo) × ((mid : ℕ) × (lo < mid) × EntriesRise period lo mid p.entries × Spans period mid hi ps)

-- there is a page, and this is its first key
abbrev pub StartsAt : {A : Type 0} → ℕ → List (PageValue A) → Type 0
StartsAt first [] = ⊥
StartsAt first (p ∷ ps) = p.first ≡ first

-- the pages start at this key, and there is a number for each
abbrev pub Starts : {A : Type 0} → ℕ → List (PageValue A) → List ℕ → Type 0
Starts first pages chains = StartsAt first pages × (length chains ≡ length pages)

-- each page and each node under a node has 16 to 32 entries or children
pub record AreWide {A : Type 0} (pages : List (PageValue A)) (widths : List ℕ) : Type 0 where
  pub keys : All IsFilled pages
  pub nodes : All IsWide widths

-- a node under another one has 16 to 32 entries or children, and so has each page and each node under it
pub record IsKid {A : Type 0} (height : ℕ) (v : NodeValue A) : Type 0 where
  pub same_height : v.height ≡ height
  pub not_less : 16 ≤ v.width
  pub not_more : v.width ≤ 32
  pub starts : Starts v.first v.pages v.chains
  pub filled : AreWide v.pages v.widths

abbrev pub pages_of : {A : Type 0} → List (NodeValue A) → List (PageValue A)
pages_of {A} = flat_map (λ (v : NodeValue A). v.pages)

-- how many entries or children each of these nodes has, and each node under them
abbrev pub widths_of : {A : Type 0} → List (NodeValue A) → List ℕ
widths_of {A} = flat_map (λ (v : NodeValue A). v.width ∷ v.widths)

abbrev pub HeadAt : {A : Type 0} → ℕ → List (NodeValue A) → Type 0
HeadAt first [] = ⊥
HeadAt first (v ∷ vs) = v.first ≡ first

-- new pages hold one row more, between the same bounds
pub record GrowsBy {A : Type 0} (key : ℕ) (row : Row A) (old new : List (PageValue A)) : Type 0 where
  pub adds : Adds row (rows_of_pages old) (rows_of_pages new)
  pub spans : (period : Period) (lo hi : ℕ) → key ≡ rank_of period row → Spans period lo hi old → lo ≤ key → key < hi
      → IsAbsent period key (name_of row) (rows_of_pages old) → Spans period lo hi new
