-- What an index of rows promises.
use Rattle.std.specs.Prelude.{◌≡◌, ℕ, ◌+◌, ◌<◌, ◌≤◌, ◌^◌, ◌&&◌, nat_le, List, [], ◌∷◌, ◌++◌, filter, length}
use Rattle.std.specs.List.{All}
use Rattle.st_key.specs.declared.period.Period.{Period}
use Rattle.st_key.specs.Key.{rank}
use Rattle.st_index.specs.declared.index.KeyRange.{KeyRange}
use Rattle.st_index.specs.declared.row.Row.{Row}
use Rattle.st_index.specs.Order.{InScanOrder}
use Rattle.st_index.specs.inner.Entries.{Name, name_of, key_end, EntryValue, EntriesRise, rank_of, rows_of}

-- new is old with this row put in
pub record Adds {A : Type 0} (row : Row A) (old new : List (Row A)) : Type 0 where
  pub front : List (Row A)
  pub back : List (Row A)
  pub old_is : old ≡ front ++ back
  pub new_is : new ≡ front ++ row ∷ back

-- new is old with one row in place of another
pub record Swaps {A : Type 0} (out row : Row A) (old new : List (Row A)) : Type 0 where
  pub front : List (Row A)
  pub back : List (Row A)
  pub old_is : old ≡ front ++ out ∷ back
  pub new_is : new ≡ front ++ row ∷ back

-- no row has this place and this name
abbrev pub IsAbsent : {A : Type 0} → Period → ℕ → Name → List (Row A) → Type 0
IsAbsent period place name rows = All (λ r. rank_of period r ≡ place → name_of r ≡ name → ⊥) rows

-- Where entries rise in a period that gives the row this key, and the key is within their bounds and has no row of its name, the new
-- ones rise within the same bounds.
abbrev pub RiseWith : {A : Type 0} → (key : ℕ) → Row A → (old new : List (EntryValue A)) → Type 0
RiseWith key row old new =
    (p : Period) (lo hi : ℕ) → key ≡ rank_of p row → EntriesRise p lo hi old → lo ≤ key → key < hi
    → IsAbsent p key (name_of row) (rows_of old) → EntriesRise p lo hi new

-- some row has this place and this name
pub record Holds {A : Type 0} (period : Period) (place : ℕ) (name : Name) (rows : List (Row A)) : Type 0 where
  pub row : Row A
  pub front : List (Row A)
  pub back : List (Row A)
  pub is : rows ≡ front ++ row ∷ back
  pub placed : rank_of period row ≡ place
  pub named : name_of row ≡ name

-- the keys from the first to the last, by rank
pub record Region : Type 0 where
  pub first : ℕ
  pub last : ℕ

abbrev pub region : ℕ → ℕ → Region
region first last = record { first = first; last = last }

-- the rows whose keys do not come before this rank
abbrev pub rows_from : {A : Type 0} → Period → ℕ → List (Row A) → List (Row A)
rows_from period from rows = filter (λ row. nat_le from (rank_of period row)) rows

-- the rows whose keys are from the first rank to the last
abbrev pub rows_between : {A : Type 0} → Period → (first last : ℕ) → List (Row A) → List (Row A)
rows_between period first last rows = filter (λ row. nat_le first (rank_of period row) && nat_le (rank_of period row) last) rows

-- the rows whose keys are in the range
abbrev pub rows_in_range : {A : Type 0} → Period → KeyRange → List (Row A) → List (Row A)
rows_in_range period range rows = rows_between period (rank range.first) (rank range.last) rows

-- the regions follow each other from lo to just below hi
abbrev pub Follow : ℕ → ℕ → List Region → Type 0
Follow lo hi [] = lo ≡ hi
Follow lo hi (r ∷ rs) = (r.first ≡ lo) × (lo ≤ r.last) × Follow (r.last + 1) hi rs

-- the region holds the key, and the entries are exactly the content's in it
pub record IsLeafAt {A : Type 0} (period : Period) (key : ℕ) (content : List (Row A)) (region : Region)
    (entries : List (EntryValue A)) : Type 0 where
  pub from : region.first ≤ key
  pub to : key ≤ region.last
  pub within : region.last < key_end period
  pub before : List (Row A)
  pub after : List (Row A)
  pub parts : content ≡ before ++ (rows_of entries ++ after)
  pub earlier : All (λ r. rank_of period r < region.first) before
  pub later : All (λ r. region.last < rank_of period r) after
  pub rising : EntriesRise period region.first (region.last + 1) entries

-- an index's content is in scan order, its regions follow each other over all keys of the period, and both are
-- at most 2^64 - 1
pub record IsLawful {A : Type 0} (period : Period) (content : List (Row A)) (regions : List Region) : Type 0 where
  pub in_order : InScanOrder period content
  pub count : length content < 2 ^ 64
  pub follow : Follow 0 (key_end period) regions
  pub regions_count : length regions < 2 ^ 64
