-- Rows and entries by their keys, and their order.
use Rattle.std.specs.Prelude.{◌≡◌, ℕ, ◌+◌, ◌*◌, ◌/◌, ◌%◌, ◌^◌, ◌≤◌, List, [], ◌∷◌}
use Rattle.std.specs.List.{All, flat_map}
use Rattle.std.specs.declared.cmp.Ordering.{Ordering}
use Rattle.std.specs.declared.cmp.Ordering.TheVariants.{Less}
use Rattle.std.specs.Ordering.{nat_cmp, on, then_cmp}
use Rattle.std.specs.Cmp.Lexicographic.{slice_cmp}
use Rattle.st_key.specs.declared.period.Period.{Period}
use Rattle.st_key.specs.Morton.{address_of}
use Rattle.st_key.specs.Period.{bins_of, seconds_of}
use Rattle.st_index.specs.declared.row.Row.{Row}

-- a row's id and its label's written text, which name it
pub record Name : Type 0 where
  pub id : List ℕ
  pub label : List ℕ

abbrev pub name_of : {A : Type 0} → Row A → Name
name_of r = record { id = r.id; label = r.label }

-- how many keys a period has
abbrev pub key_end : Period → ℕ
key_end period = bins_of period * 2 ^ 63

-- the rows of one key
pub record EntryValue (A : Type 0) : Type 0 where
  pub at : ℕ
  pub rows : List (Row A)

-- the rank of the key of the row's point
unfoldable pub rank_of : {A : Type 0} → Period → Row A → ℕ
rank_of period r = (r.point.t / seconds_of period) * 2 ^ 63 + address_of r.point.x r.point.y (r.point.t % seconds_of period)

-- by the id's bytes, then by the label's
abbrev pub name_cmp : Name → Name → Ordering
name_cmp = then_cmp (on (λ (n : Name). n.id) (slice_cmp nat_cmp)) (on (λ (n : Name). n.label) (slice_cmp nat_cmp))

-- the keys rise by the order R, each to all that stand after it
abbrev pub Climbs : {X K : Type 0} → (K → K → Ordering) → (X → K) → List X → Type 0
Climbs R key [] = Unit {0}
Climbs R key (x ∷ xs) = All (λ y. R (key x) (key y) ≡ Less) xs × Climbs R key xs

-- each row is named before those after it
abbrev pub NamesRise : {A : Type 0} → List (Row A) → Type 0
NamesRise = Climbs name_cmp name_of

-- an entry has rows, all of its own key, in the order of their names
pub record IsEntry {A : Type 0} (period : Period) (e : EntryValue A) : Type 0 where
  pub held : e.rows ≡ [] → ⊥
  pub placed : All (λ r. rank_of period r ≡ e.at) e.rows
  pub named : NamesRise e.rows

-- the entries' keys rise, from lo on and below hi
abbrev pub EntriesRise : {A : Type 0} → Period → ℕ → ℕ → List (EntryValue A) → Type 0
EntriesRise period lo hi [] = lo ≤ hi
EntriesRise period lo hi (e ∷ es) = (lo ≤ e.at) × IsEntry period e × EntriesRise period (e.at + 1) hi es

-- the entries' rows, in order
abbrev pub rows_of : {A : Type 0} → List (EntryValue A) → List (Row A)
rows_of {A} = flat_map (λ (e : EntryValue A). e.rows)
