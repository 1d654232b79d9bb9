-- An invariant of a representation, which no reader has to believe: where the row of a name stands.
use Rattle.std.specs.Prelude.{◌≡◌, ℕ, List, [], ◌∷◌, Option, Some, None, Bool, ◌&&◌}
use Rattle.st_key.specs.declared.key.Key.{Key}
use Rattle.st_key.specs.declared.period.Period.{Period}
use Rattle.st_key.specs.Key.{rank}
use Rattle.st_text.specs.Texts.{Text, same}
use Rattle.st_index.specs.declared.row.Row.{Row}
use Rattle.st_index.specs.inner.Entries.{Name, rank_of}
use Rattle.st_scan.specs.Visible.{is_visible}
use Rattle.st_table.specs.inner.Once.{rows_with_name}

-- one row has the name, and its key is this one by rank
pub record IsAt {A : Type 0} (period : Period) (place : ℕ) (name : Name) (rows : List (Row A)) : Type 0 where
  pub row : Row A
  pub only : rows_with_name name rows ≡ row ∷ []
  pub placed : rank_of period row ≡ place

-- what is found under a name is the key of its one row, or nothing where no row has it
abbrev pub IsFound : {A : Type 0} → Period → Option Key → Name → List (Row A) → Type 0
IsFound period None name rows = rows_with_name name rows ≡ []
IsFound period (Some key) name rows = IsAt period (rank key) name rows

-- whether the row has the id, and a label that is true for the authorizations
abbrev pub is_shown_of : {A : Type 0} → Text → List Text → Row A → Bool
is_shown_of id auths row = same row.id id && is_visible auths row
