-- Regions that meet a query.
use Rattle.std.specs.Prelude.{ℕ, ◌≡◌, ◌+◌, ◌≤◌, ◌⊎◌, List, [], ◌∷◌}
use Rattle.st_key.specs.declared.key.Key.{Key}
use Rattle.st_key.specs.declared.period.Period.{Period}
use Rattle.st_key.specs.Key.{rank}
use Rattle.st_box.specs.declared.query.Query.{Query}
use Rattle.st_box.specs.Query.{HasKey}
use Rattle.st_index.specs.inner.Index.{Region}

-- some key of the region, from a place on, is that of a point inside the query
pub record Meets (period : Period) (q : Query) (start : ℕ) (r : Region) : Type 0 where
  pub key : Key
  pub inside : HasKey q period key
  pub from_start : start ≤ rank key
  pub from_first : r.first ≤ rank key
  pub to_last : rank key ≤ r.last

-- so many of the list are P
abbrev pub Count : {X : Type 0} → (X → Type 0) → List X → ℕ → Type 0
Count P [] n = n ≡ 0
Count P (x ∷ xs) n = (P x × ((m : ℕ) × (n ≡ m + 1) × Count P xs m)) ⊎ ((P x → ⊥) × Count P xs n)
