-- What a journal leaves if the process ends.
use Rattle.std.specs.Prelude.{◌≡◌, List}
use Rattle.st_journal.specs.declared.journal.Journal.{Ghosts}
use Rattle.st_journal.specs.declared.record.Record.{Record}

-- each list that the next opening may find, if the process ends at this moment, is so
abbrev pub LeavesOnly : {J : Type 0} → Ghosts J → J → (List Record → Type 0) → Type 0
LeavesOnly journals journal is_so = journals.misreads journal ≡ 0 → (left : List Record) → journals.may_leave journal left → is_so left
