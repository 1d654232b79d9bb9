-- A stage of the code, which no reader has to believe: what putting in a row does to a node, and what finding a page says.
use Rattle.std.specs.Prelude.{◌≡◌, ℕ, ◌+◌, ◌<◌, ◌≤◌, max, List, [], ◌∷◌, ◌++◌, length, take, drop, vec_capacity, Vec, Option, Some, None}
use Rattle.std.specs.Prelude.{not, ltb, true, false}
use Rattle.std.specs.List.{All}
use Rattle.std.specs.List.Sorted.{IsPartitionedBy, IsPartitionPoint}
use Rattle.st_key.specs.declared.period.Period.{Period}
use Rattle.st_index.specs.declared.row.Row.{Row}
use Rattle.st_index.specs.inner.Entries.{EntryValue, EntriesRise}
use Rattle.st_ubtree.specs.declared.node.blank.Blank.{Blank}
use Rattle.st_tally.specs.inner.Pages.{PageValue, NodeValue}
use Rattle.st_ubtree.specs.inner.Kids.{Spans, GrowsBy, AreWide, IsKid, Starts, pages_of}

-- an empty list of rows that can hold one more than the key's, if it has some
pub record IsRoomFor {A : Type 0} (key : ℕ) (items : List (Row A)) (capacity : ℕ) (es : List (EntryValue A)) : Type 0 where
  pub empty : items ≡ []
  pub enough : All (λ (e : EntryValue A). e.at ≡ key → 0 < length e.rows → length e.rows < capacity) es

-- an empty list of entries with room
abbrev pub IsBlankPage : {A B : Type 0} → Option (Vec B A) → Type 0
IsBlankPage None = ⊥
IsBlankPage (Some v) = (v.items ≡ []) × (33 ≤ vec_capacity v)

-- an empty list of children with room
abbrev pub IsBlank : {A : Type 0} → Blank A → Type 0
IsBlank b = (b.kids.items ≡ []) × (33 ≤ vec_capacity b.kids)

abbrev pub AreBlank : {A : Type 0} → List (Blank A) → Type 0
AreBlank bs = All IsBlank bs

-- the pages follow each other between some bounds, and the key stands between these
pub record AreAround {A : Type 0} (key : ℕ) (pages : List (PageValue A)) : Type 0 where
  pub period : Period
  pub lo : ℕ
  pub hi : ℕ
  pub spans : Spans period lo hi pages
  pub from : lo ≤ key
  pub to : key < hi

-- the entries rise between some bounds
abbrev pub DoRise : {A : Type 0} → List (EntryValue A) → Type 0
DoRise es = (period : Period) × (lo : ℕ) × (hi : ℕ) × EntriesRise period lo hi es

-- the pages of a node and of the one beside it
abbrev pub pages_with : {A : Type 0} → NodeValue A → Option (NodeValue A) → List (PageValue A)
pages_with v None = v.pages
pages_with v (Some s) = v.pages ++ s.pages

abbrev pub WidthsAfter : {A : Type 0} → NodeValue A → NodeValue A → Option (NodeValue A) → Type 0
WidthsAfter old v None = (old.width ≤ v.width) × (v.width ≤ 32) × (AreWide old.pages old.widths → AreWide v.pages v.widths)
WidthsAfter old v (Some s) = IsKid v.height v × IsKid v.height s

pub record Grows {A : Type 0} (key : ℕ) (row : Row A) (old new : NodeValue A) (split : Option (NodeValue A)) : Type 0 where
  pub first : new.first ≡ old.first
  pub height : new.height ≡ old.height
  pub starts : Starts old.first old.pages old.chains → Starts new.first new.pages new.chains
  pub widths : WidthsAfter old new split
  pub by : GrowsBy key row old.pages (pages_with new split)

-- where the children stand by their first keys, it is the last that begins at or before the key, or else the first
pub record IsChosen {A : Type 0} (key : ℕ) (kids : List (NodeValue A)) (at : ℕ) : Type 0 where
  pub upto : ℕ
  pub found : IsPartitionedBy (λ (v : NodeValue A). not (ltb key v.first)) kids
      → IsPartitionPoint (λ (v : NodeValue A). not (ltb key v.first) ≡ true) (λ (v : NodeValue A). not (ltb key v.first) ≡ false) kids upto
  pub is : at + 1 ≡ max upto 1
  pub within : at < length kids

-- some of these pages, one after the other, among them that of the key: they have the keys from first to last, where all pages end
-- with this last key
pub record IsPartIn {A : Type 0} (key : ℕ) (pages : List (PageValue A)) (end first last : ℕ) (part : List (PageValue A)) : Type 0 where
  pub before : List (PageValue A)
  pub after : List (PageValue A)
  pub is : pages ≡ before ++ (part ++ after)
  pub from : (period : Period) (lo : ℕ) → Spans period lo (end + 1) pages → lo ≤ key → first ≤ key
  pub to : (period : Period) (lo : ℕ) → Spans period lo (end + 1) pages → key ≤ end → key ≤ last
  pub low : (period : Period) (lo : ℕ) → Spans period lo (end + 1) pages → Spans period lo first before
  pub inside : (period : Period) (lo : ℕ) → Spans period lo (end + 1) pages → Spans period first (last + 1) part
  pub high : (period : Period) (lo : ℕ) → Spans period lo (end + 1) pages → Spans period (last + 1) (end + 1) after

-- among these pages it is the one of the key
abbrev pub IsLeafIn : {A : Type 0} → ℕ → List (PageValue A) → (end first last : ℕ) → List (EntryValue A) → Type 0
IsLeafIn key pages end first last entries = IsPartIn key pages end first last (record { first = first; entries = entries } ∷ [])

-- a page that takes a row holds more, or half of what it then has goes to a page beside it
abbrev pub PageGrows : {A : Type 0} → ℕ → Row A → List (EntryValue A) → List (EntryValue A) → Option (NodeValue A) → Type 0
PageGrows key row old new None = (length old ≤ length new) × (length new ≤ 32)
    × ((first : ℕ) → GrowsBy key row (record { first = first; entries = old } ∷ []) (record { first = first; entries = new } ∷ []))
PageGrows key row old new (Some s) = (length new ≡ 16) × (s.width ≡ 17) × IsKid 0 s
    × ((first : ℕ) → GrowsBy key row (record { first = first; entries = old } ∷ []) (record { first = first; entries = new } ∷ s.pages))

-- the children of a node of this height
pub record AreKids {A : Type 0} (height : ℕ) (kids : List (NodeValue A)) : Type 0 where
  pub below : ℕ
  pub higher : height ≡ below + 1
  pub each : All (IsKid below) kids

-- at most 32 children stay; of more, the lower 16 stay and the others go under a node beside this one
abbrev pub SplitsIfFull : {A : Type 0} → ℕ → List (NodeValue A) → List (NodeValue A) → Option (NodeValue A) → Type 0
SplitsIfFull height old new None = (new ≡ old) × (length old ≤ 32)
SplitsIfFull height old new (Some s) = (new ≡ take 16 old) × (length new ≡ 16) × IsKid height s × (s.pages ≡ pages_of (drop 16 old))
    × (length old ≡ 33)
