-- What a turn of copying leaves in a file.
use Rattle.std.specs.Prelude.{◌≡◌, ◌≢◌, ℕ, List, Option, Some, length}
use Rattle.st_journal.specs.declared.record.Record.{Record}
use Rattle.st_journal.specs.declared.journal.Journal.{Ghosts}
use Rattle.st_journal_copy.specs.Following.{GoesOn, IsAtEnd, IsGiven}

-- The copy, as it was before it was closed, has what its files held and, behind that, what was read behind as many records, to an end of
-- the list: so many by now. Unless it had as many as the last turn had left in it, all that it has was compared or appended.
pub record Copied {J : Type 0} (holds : List Record → Type 0) (journals : Ghosts J)
    (gives : (from most : ℕ) → List Record → Type 0) (left : Option ℕ) (now : ℕ) : Type 0 where
  pub copy : J
  pub old : List Record
  pub found : journals.misreads copy ≡ 0 → holds old
  pub goes_on : journals.misreads copy ≡ 0 → GoesOn gives old (journals.list copy)
  pub whole : journals.misreads copy ≡ 0 → left ≢ Some (length old) → IsGiven gives 0 (journals.list copy)
  pub counted : journals.misreads copy ≡ 0 → now ≡ length (journals.list copy)
  pub at_end : IsAtEnd gives now
