-- What becomes of the records of a journal when the list is made short.
use Rattle.std.specs.Prelude.{◌≡◌, List, map, Ok}
use Rattle.std.specs.List.{AllByRecursion}
use Rattle.std.specs.declared.alloc.Global.{Global}
use Rattle.st_journal.specs.declared.record.Record.{Record}
use Rattle.st_journal_record.specs.Records.{ReadsAs}
use Rattle.st_journal_compact.specs.declared.judged_record.JudgedRecord.{JudgedRecord}
use Rattle.st_journal_compact.specs.Shortening.{Noted, records_of, shortened}

-- the record of a change, and whether it was accepted
abbrev pub judged : Noted Global → JudgedRecord
judged c = record { note = c.note; accepted = c.accepted }

-- the requests of these records make of them changes, of which these are the short list's
pub record AreShortOf (records : List JudgedRecord) (kept : List Record) : Type 0 where
  pub changes : List (Noted Global)
  pub judged_are : records ≡ map judged changes
  pub read : AllByRecursion (λ c. ReadsAs c.note (Ok c.request)) changes
  pub kept_are : kept ≡ records_of (shortened changes)
