-- Rows that come to a place, and that go.
use Rattle.std.proofs.Common.{◌≡◌, ℕ, zero, suc, ◌+◌, ◌*◌, ◌^◌, ◌<◌, ◌&&◌, Bool, true, false, not, eqb, eqb-true, List, [], ◌∷◌, ◌++◌, length, get_or}
use Rattle.std.proofs.Common.{set, Vec, refl, sym, ap, ◌∙◌, arith, length-append}
use Rattle.st_key.specs.declared.key.Key.{Key}
use Rattle.st_key.specs.declared.period.Period.{Period}
use Rattle.st_key.specs.Key.{rank}
use Rattle.st_index.specs.declared.row.Row.{Row}
use Rattle.st_index.specs.declared.storage.OwnedRows.{OwnedRows}
use Rattle.st_index.specs.declared.storage.OwnedRows.TheVariants.{One, Many}
use Rattle.st_index.specs.declared.storage.Storage.{Storage}
use Rattle.st_index.specs.declared.storage.Storage.TheVariants.{Nowhere, Inline, Noted, Heap}
use Rattle.st_index.specs.inner.Entries.{EntryValue, rank_of}
use Rattle.st_index.specs.inner.Storages.{owned_rows, stored_at, stored_rows}

-- equal parts make equal keys
both : (s t : Bool) → false ≡ not (s && t) → (s ≡ true) × (t ≡ true)
both true true e = (refl, refl)
both true false e = cc
both false t e = cc

same_rank : (k l : Key) → k.bin ≡ l.bin → k.address ≡ l.address → rank l ≡ rank k
same_rank k l bin address = ap (λ n. n * 2 ^ 63 + l.address) (sym bin) ∙ ap (λ n. k.bin * 2 ^ 63 + n) (sym address)

module _ {A : Type 0} where
  -- the rows of a place, by themselves
  pub rows_of_one : (held : OwnedRows A) (row : Row A) (rows : List (Row A)) → held ≡ One row → owned_rows held ≡ rows → rows ≡ row ∷ []
  rows_of_one held row rows is same = sym same ∙ ap owned_rows is

  pub rows_of_many : (held : OwnedRows A) (list : Vec (Row A) A) (rows : List (Row A)) → held ≡ Many list → owned_rows held ≡ rows → rows ≡ list.items
  rows_of_many held list rows is same = sym same ∙ ap owned_rows is

  -- an entry's place
  pub entry_rows : (place inside : Storage A) (value : EntryValue A) → place ≡ inside → record { at = stored_at inside; rows = stored_rows inside } ≡ value
      → stored_rows place ≡ value.rows
  entry_rows place inside value is view = ap stored_rows is ∙ ap (λ (v : EntryValue A). v.rows) view

  pub entry_at : (place inside : Storage A) (value : EntryValue A) → place ≡ inside → record { at = stored_at inside; rows = stored_rows inside } ≡ value
      → stored_at place ≡ value.at
  entry_at place inside value is view = ap stored_at is ∙ ap (λ (v : EntryValue A). v.at) view

  -- a place that is no list has one row at most
  none_inside : (row old : Row A) (index : ℕ) → index < length (old ∷ []) → row ∷ [] ≡ set (old ∷ []) index row
  none_inside row old zero lt = refl
  none_inside row old (suc index) lt = absurd (omega (arith, lt))

  pub only_row : (place : Storage A) → ((period : Period) (bin address : ℕ) (rows : Vec (Row A) A) → place ≡ Heap period bin address rows → ⊥)
      → (index : ℕ) (row : Row A) → index < length (stored_rows place) → row ∷ [] ≡ set (stored_rows place) index row
  only_row (Nowhere period bin address) none index row lt = absurd (omega (arith, lt))
  only_row (Inline period bin address id label) none index row lt = none_inside row _ index lt
  only_row (Noted period bin address id note) none index row lt = none_inside row _ index lt
  only_row (Heap period bin address rows) none index row lt = absurd (none period bin address rows refl)

  -- a row alone has the key
  pub lone_key : (period : Period) (key other : Key) (rows before : List (Row A)) (first row : Row A) → length rows ≡ 1 → first ≡ get_or rows 0 first
      → rows ≡ before ++ row ∷ [] → rank other ≡ rank_of period first → false ≡ not (eqb other.bin key.bin && eqb other.address key.address)
      → rank key ≡ rank_of period row
  lone_key period key other rows [] first row one there is at same =
      let parts = both _ _ same in
      same_rank other key (eqb-true _ _ parts.0) (eqb-true _ _ parts.1) ∙ at ∙ ap (rank_of period) (there ∙ ap (λ rs. get_or rs 0 first) is)
  lone_key period key other rows (r ∷ before) first row one there is at same = absurd (omega (arith, one, ap length is, length-append before (row ∷ [])))

  -- the key of a list
  pub key_in : (place : Storage A) (period : Period) (bin address : ℕ) (rows : Vec (Row A) A) (key : Key) → place ≡ Heap period bin address rows
      → key.bin ≡ bin → key.address ≡ address → rank key ≡ stored_at place
  key_in place period bin address rows key is same_bin same_address =
      ap (λ n. n * 2 ^ 63 + key.address) same_bin ∙ ap (λ n. bin * 2 ^ 63 + n) same_address ∙ ap stored_at (sym is)
