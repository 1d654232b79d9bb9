-- An invariant of a representation, which no reader has to believe: how many rows have names of a hash and stand at a key.
use Rattle.std.specs.Prelude.{◌≡◌, ℕ, ◌+◌, ◌-◌, ◌*◌, ◌/◌, ◌%◌, ◌^◌, ◌<◌, List, [], ◌∷◌, take, drop, Bool, Option, Some, None, IfSome}
use Rattle.std.specs.Prelude.{filter, length, nat_eq, if◌then◌else◌}
use Rattle.std.specs.Hash.{u64}
use Rattle.std.specs.Hash.DefaultHasher.{initial, write, finish}
use Rattle.std.specs.List.{fold}
use Rattle.std.specs.Option.{unwrap_or}
use Rattle.std.specs.Map.{lookup}
use Rattle.std.specs.Ordering.{nat_cmp, is_eq}
use Rattle.st_key.specs.declared.key.Key.{Key}
use Rattle.st_key.specs.declared.period.Period.{Period}
use Rattle.st_key.specs.Key.{rank}
use Rattle.st_text.specs.Texts.{Text}
use Rattle.st_index.specs.declared.row.Row.{Row}
use Rattle.st_index.specs.inner.Entries.{rank_of}
use Rattle.st_table.specs.declared.seed.Seed.{Seed}

-- the number that the first two bytes write, the last digit first
abbrev pub written : Text → ℕ
written [] = 0
written (a ∷ []) = a
written (a ∷ b ∷ bs) = b * 256 + a

-- SipHash-1-3 of the seed and of these bytes
unfoldable pub sip : Seed → Text → ℕ
sip seed bytes = finish (write (fold write (fold write initial (u64 seed.first)) (u64 seed.second)) bytes)

-- the hash of an id: 32 bits of all bytes but the last two, and on from there as far as these say
unfoldable pub hash_of : Seed → Text → ℕ
hash_of seed id = (sip seed (take (length id - 2) id) / 2 ^ 32 + written (drop (length id - 2) id)) % 2 ^ 32

-- the hash of a label: 15 bits
unfoldable pub label_hash : Seed → Text → ℕ
label_hash seed label = sip seed label % 2 ^ 15

-- the hash of a name: that of its id, then that of its label
abbrev pub name_hash : Seed → (id label : Text) → ℕ
name_hash seed id label = hash_of seed id * 2 ^ 15 + label_hash seed label

-- the place of a hash and of a key of this rank
abbrev pub place_of : (hash rank : ℕ) → ℕ
place_of hash rank = hash * 2 ^ 81 + rank

pub record PlacesValue : Type 0 where
  pub seed : Seed
  pub numbers : List (ℕ × ℕ)

-- the number at a place
abbrev pub number_at : List (ℕ × ℕ) → ℕ → ℕ
number_at numbers place = unwrap_or (lookup (λ other. is_eq (nat_cmp place other)) numbers) 0

-- no number in the map is 0
abbrev pub HasNoZero : List (ℕ × ℕ) → Type 0
HasNoZero numbers = (place : ℕ) → IfSome (lookup (λ other. is_eq (nat_cmp place other)) numbers) (λ number. 0 < number)

-- one at a place, and none elsewhere
abbrev pub one_at : (place other : ℕ) → ℕ
one_at place other = if nat_eq place other then 1 else 0

-- one at the key where a row stood before, if there was one
abbrev pub one_before : (hash : ℕ) → Option Key → (other : ℕ) → ℕ
one_before hash None other = 0
one_before hash (Some key) other = one_at (place_of hash (rank key)) other

-- whether a row's name and key are of this place
abbrev pub stands_at : {A : Type 0} → Seed → Period → ℕ → Row A → Bool
stands_at seed period place row = nat_eq (place_of (name_hash seed row.id row.label) (rank_of period row)) place

-- the number at each place is that of the rows that stand there
abbrev pub IsTied : {A : Type 0} → Seed → Period → List (ℕ × ℕ) → List (Row A) → Type 0
IsTied seed period numbers rows = (place : ℕ) → number_at numbers place ≡ length (filter (stands_at seed period place) rows)

-- a place of an id's hash whose key has this rank
pub record HasKey (numbers : List (ℕ × ℕ)) (hash rank : ℕ) : Type 0 where
  pub offset : ℕ
  pub below : offset < 2 ^ 96
  pub of_key : offset % 2 ^ 81 ≡ rank
  pub held : 0 < number_at numbers (hash * 2 ^ 96 + offset)

-- a key where rows of an id's hash stand has a number
abbrev pub KeepsKeys : (numbers keys : List (ℕ × ℕ)) → (hash end : ℕ) → Type 0
KeepsKeys numbers keys hash end =
    (offset : ℕ) → offset < end → 0 < number_at numbers (hash * 2 ^ 96 + offset) → 0 < number_at keys (offset % 2 ^ 81)

-- and no other key has one
abbrev pub AddsNoKeys : (numbers keys : List (ℕ × ℕ)) → (hash : ℕ) → Type 0
AddsNoKeys numbers keys hash = (rank : ℕ) → 0 < number_at keys rank → HasKey numbers hash rank
