-- What a list that follows a hall gives.
use Rattle.std.specs.Prelude.{ℕ, List}
use mathlib.Core.List.{IsPrefix}
use Rattle.st_journal.specs.declared.record.Record.{Record}
use Rattle.st_journal.specs.declared.journal.Journal.{Ghosts}
use Rattle.st_hall.specs.Steps.{Ask, HallState as State}
use Rattle.st_hall_group_commit.specs.Rolls.{WasRead}

-- the records were read when a beginning of this list was kept
pub record GivesOf {J : Type 0} (journals : Ghosts J) (first start : State) (list : List Ask) (from most : ℕ)
    (records : List Record) : Type 0 where
  pub kept : List Ask
  pub begins : IsPrefix kept list
  pub read : WasRead journals first start kept from most records
