-- Why a store is refused to another opening.
use Rattle.std.specs.Prelude.{◌≡◌, ◌≢◌, ℤ, ℕ, List, ◌∷◌}
use Rattle.st_journal.specs.Owner.{owner_in}
use Rattle.st_journal.specs.declared.record.Record.{Record}
use Rattle.st_journal_rows.specs.declared.error.OpenError.{OpenError}
use Rattle.st_journal_rows.specs.declared.error.OpenError.TheVariants.{OtherOwner, OtherOpening}
use Rattle.st_journal_rows.specs.Table.{opening_record}

-- the records are those of a store that was opened so
pub record AreOf (opening : List ℕ) (records : List Record) : Type 0 where
  pub time : ℤ
  pub changes : List Record
  pub are : records ≡ opening_record time opening ∷ changes

-- Why records are refused to an opening. That they are of another one is told only where they are: of a store of another owner, or of
-- another store of this owner.
abbrev pub AreRefused : List ℕ → List Record → OpenError → Type 0
AreRefused opening records OtherOwner = (other : List ℕ) × AreOf other records × (owner_in other ≢ owner_in opening)
AreRefused opening records OtherOpening =
    (other : List ℕ) × AreOf other records × ((owner_in other ≡ owner_in opening) × (other ≢ opening))
AreRefused opening records _ = Unit {0}
