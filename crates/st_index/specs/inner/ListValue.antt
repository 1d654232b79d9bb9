-- What an index of one list is seen as.
use Rattle.std.specs.Prelude.{List}
use Rattle.st_key.specs.declared.period.Period.{Period}
use Rattle.st_index.specs.inner.Entries.{EntryValue}

pub record ListValue (A : Type 0) : Type 0 where
  pub period : Period
  pub entries : List (EntryValue A)
