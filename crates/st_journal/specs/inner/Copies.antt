-- A stage of the code, which no reader has to believe: a list while records are put behind it.
use Rattle.std.specs.Prelude.{◌≡◌, List, ◌++◌}
use Rattle.st_journal.specs.declared.record.Record.{Record}

-- the list with nothing or more behind it
abbrev pub GrowsTo : List Record → List Record → Type 0
GrowsTo old new = (more : List Record) × (new ≡ old ++ more)
