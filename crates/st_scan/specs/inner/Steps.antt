-- A stage of the code, which no reader has to believe: where a walk stands, and its steps.
use Rattle.std.specs.Prelude.{ℕ, ◌≡◌, ◌+◌, ◌<◌, ◌≤◌, ◌↔◌, ◌^◌, length, List, [], ◌∷◌, ◌++◌, Option, Some, None, filter, IsTrue, Bool}
use Rattle.std.specs.Prelude.{◌&&◌, nat_le, ◌⊎◌}
use Rattle.std.specs.List.{All, list_any}
use Rattle.st_key.specs.declared.key.Key.{Key}
use Rattle.st_key.specs.declared.period.Period.{Period}
use Rattle.st_key.specs.Key.{rank}
use Rattle.st_box.specs.declared.query.Query.{Query}
use Rattle.st_box.specs.Query.{HasKey}
use Rattle.st_plan.specs.Range.{is_exact_in}
use Rattle.st_scan.specs.declared.own_plan.OwnPlan.{OwnPlan}
use Rattle.st_scan.specs.declared.own_plan.OwnPlan.TheVariants.{Due, Made, Never}
use Rattle.st_scan.specs.declared.part_ranges.PartRanges.{PartRanges}
use Rattle.st_index.specs.declared.row.Row.{Row}
use Rattle.st_index.specs.inner.Index.{Follow, IsLeafAt, Region}
use Rattle.st_index.specs.inner.Views.{viewed}
use Rattle.st_index.specs.inner.Entries.{EntryValue, IsEntry, key_end, rank_of, rows_of}
use Rattle.st_scan.specs.declared.position.Position.{Position}
use Rattle.st_scan.specs.inner.Regions.{Count, Meets}
use Rattle.st_scan.specs.inner.Rows.{has_row, has_row_from}
use Rattle.st_scan.specs.inner.Walks.{IsExactFor}

abbrev pub IsIn : {X : Type 0} → X → List X → Type 0
IsIn x [] = ⊥
IsIn x (y ∷ ys) = (x ≡ y) ⊎ IsIn x ys

-- whether the part has the key in an exact range
abbrev pub has_exact : Key → PartRanges → Bool
has_exact k p = nat_le p.bin_lo k.bin && nat_le k.bin p.bin_hi && list_any (is_exact_in k.address) p.ranges.now

-- each key that the parts have in an exact range is the query's
abbrev pub AreExact : Period → Query → List PartRanges → Type 0
AreExact period q parts = (k : Key) → IsTrue (list_any (has_exact k) parts) → HasKey q period k

-- and so is each of those of the plan that a walk has made for itself
abbrev pub IsOwnExact : {A : Type 0} → Period → Query → OwnPlan A → Type 0
IsOwnExact period q (Due _) = Unit {0}
IsOwnExact period q (Made plan) = IsExactFor period q plan
IsOwnExact period q Never = Unit {0}

-- the place of a key, or the end of all keys
abbrev pub rank_or_end : Period → Option Key → ℕ
rank_or_end period None = key_end period
rank_or_end period (Some k) = rank k

-- the rows that a walk still gives: those of its entry, those of its region, and those of the index after it
abbrev pub left_at : {A : Type 0} → Period → Query → List (Row A) → List (Row A) → List (EntryValue A) → ℕ → List (Row A)
left_at period q content rows entries next = rows ++ (filter (has_row q) (rows_of entries) ++ filter (has_row_from period q next) content)

-- the region meets the query and ends before a place
abbrev pub MeetsBefore : Period → Query → ℕ → ℕ → Region → Type 0
MeetsBefore period q start next r = (r.last < next) × Meets period q start r

-- the rows ahead lie in the region opened last, which ends just before the next place; the regions opened are those
-- that meet the query and end before that place
pub record IsAt {A : Type 0} (period : Period) (q : Query) (regions : List Region) (start : ℕ) (rows : List (Row A))
    (entries : List (EntryValue A)) (next opened : ℕ) : Type 0 where
  pub entry_rows : All (λ row. IsTrue (has_row q row)) rows
  pub keyed : All (IsEntry period) entries
  pub started : start ≤ next
  pub counted : Count (MeetsBefore period q start next) regions opened
  pub whole : (r : Region) (k : ℕ) → IsIn r regions → start ≤ k → r.first ≤ k → k < next → r.last < next
  pub here : (r : Region) → IsIn r regions → All (λ row. (r.first ≤ rank_of period row) ↔ (r.last < next)) (rows ++ rows_of entries)
  pub to_end : next ≤ key_end period

abbrev pub IsPosition : {A : Type 0} → Period → Query → List Region → Position A → Type 0
IsPosition period q regions p = IsAt period q regions (rank p.start) (viewed p.rows) p.entries.now (rank_or_end period p.next) p.opened

abbrev pub left_of : {A : Type 0} → Period → Query → List (Row A) → Position A → List (Row A)
left_of period q content p = left_at period q content (viewed p.rows) p.entries.now (rank_or_end period p.next)

-- nothing is left, and the regions opened are all that meet the query
pub record IsOver {A : Type 0} (period : Period) (q : Query) (content : List (Row A)) (regions : List Region)
    (p : Position A) : Type 0 where
  pub left : left_of period q content p ≡ []
  pub opened : Count (Meets period q (rank p.start)) regions p.opened

-- the next region is opened: what is left is the same
pub record Steps {A : Type 0} (period : Period) (q : Query) (content : List (Row A)) (regions : List Region)
    (old new : Position A) : Type 0 where
  pub at : IsPosition period q regions new
  pub start : new.start ≡ old.start
  pub spent : viewed new.rows ≡ []
  pub left : left_of period q content new ≡ left_of period q content old
  pub on : rank_or_end period old.next < rank_or_end period new.next

-- the first region from a place on that meets the query, its entries from the query's first key there on, and the place after it
pub record Opens {A : Type 0} (period : Period) (q : Query) (content : List (Row A)) (regions : List Region) (start : ℕ)
    (entries : List (EntryValue A)) (next : ℕ) : Type 0 where
  pub region : Region
  pub one : IsIn region regions
  pub key : Key
  pub inside : HasKey q period key
  pub from_start : start ≤ rank key
  pub first : (k : Key) → HasKey q period k → start ≤ rank k → rank key ≤ rank k
  pub skipped : List (EntryValue A)
  pub leaf : IsLeafAt period (rank key) content region (skipped ++ entries)
  pub before : All (λ e. e.at < rank key) skipped
  pub after : All (λ e. rank key ≤ e.at) entries
  pub next_is : next ≡ region.last + 1

-- the first entry that is inside the query: its rows, and the entries after it
pub record IsNextEntry {A : Type 0} (q : Query) (entries : List (EntryValue A)) (rows : List (Row A))
    (rest : List (EntryValue A)) : Type 0 where
  pub passed : List (EntryValue A)
  pub entry : EntryValue A
  pub is : entries ≡ passed ++ entry ∷ rest
  pub rows_are : rows ≡ entry.rows
  pub outside : filter (has_row q) (rows_of passed) ≡ []
  pub inside : All (λ row. IsTrue (has_row q row)) entry.rows
  pub some : rows ≡ [] → ⊥

-- the entries that remain are those from a place on
pub record SkipsTo {A : Type 0} (start : ℕ) (entries rest : List (EntryValue A)) : Type 0 where
  pub skipped : List (EntryValue A)
  pub is : entries ≡ skipped ++ rest
  pub before : All (λ e. e.at < start) skipped
  pub after : All (λ e. start ≤ e.at) rest

-- what holds of a walk's parts
pub record IsWalk {A : Type 0} (index_period : Period) (regions : List Region) (period : Period) (q : Query) (parts : List PartRanges)
    (own : OwnPlan A) (p : Position A) : Type 0 where
  pub same_period : period ≡ index_period
  pub exact : AreExact period q parts
  pub own_exact : IsOwnExact period q own
  pub follow : Follow 0 (key_end period) regions
  pub few : length regions < 2 ^ 64
  pub at : IsPosition period q regions p
