-- A stage of the code, which no reader has to believe: errors of reading and writing.
use Rattle.std.specs.Prelude.{◌≡◌, ◌≢◌, ℕ, List}
use Rattle.st_journal.specs.Owner.{owner_in}
use Rattle.st_journal_rows.specs.declared.error.OpenError.{OpenError}
use Rattle.st_journal_rows.specs.declared.error.OpenError.TheVariants.{OtherOwner, OtherOpening}

-- the error is not that another opening was found
abbrev pub IsNoOther : OpenError → Type 0
IsNoOther OtherOwner = ⊥
IsNoOther OtherOpening = ⊥
IsNoOther _ = Unit {0}

-- what is told to an opening where another one is found
abbrev pub Refuses : (opening other : List ℕ) → OpenError → Type 0
Refuses opening other OtherOwner = owner_in other ≢ owner_in opening
Refuses opening other OtherOpening = (owner_in other ≡ owner_in opening) × (other ≢ opening)
Refuses opening other _ = ⊥
