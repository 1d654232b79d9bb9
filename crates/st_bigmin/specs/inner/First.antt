-- The first key of a query.
use Rattle.std.specs.Prelude.{◌≡◌, ℕ, ◌≤◌, ◌<◌, ◌⊎◌}
use Rattle.st_key.specs.declared.period.Period.{Period}
use Rattle.st_key.specs.declared.key.Key.{Key}
use Rattle.st_box.specs.declared.query.Query.{Query}
use Rattle.st_box.specs.Query.{HasKey}

-- not before
abbrev pub IsAtOrAfter : Key → Key → Type 0
IsAtOrAfter k l = (l.bin < k.bin) ⊎ ((l.bin ≡ k.bin) × (l.address ≤ k.address))

-- the first key of the query that does not come before this one
pub record IsFirstFrom (q : Query) (period : Period) (from k : Key) : Type 0 where
  pub from_there : IsAtOrAfter k from
  pub inside : HasKey q period k
  pub first : (l : Key) → HasKey q period l → IsAtOrAfter l from → IsAtOrAfter l k

-- the first key of the query in a bin
pub record IsFirstIn (q : Query) (period : Period) (bin : ℕ) (k : Key) : Type 0 where
  pub in_bin : k.bin ≡ bin
  pub inside : HasKey q period k
  pub first : (l : Key) → HasKey q period l → l.bin ≡ bin → k.address ≤ l.address
