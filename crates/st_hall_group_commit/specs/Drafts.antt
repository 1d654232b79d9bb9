-- What contracts see of a draft: the one list of changes, the beginning of it whose records were taken, the records of the rest, and
-- whether no more is added.
use Rattle.std.specs.Prelude.{Bool, List}
use Rattle.st_journal.specs.declared.record.Record.{Record}
use Rattle.st_hall_press.specs.Steps.{Ask}

pub record Drafted : Type 0 where
  pub list : List Ask
  pub taken : List Ask
  pub records : List Record
  pub is_closed : Bool
