-- An invariant of a representation, which no reader has to believe: the journal's list leads to the state after the changes that are
-- kept, and the batch from there to the state after the whole list.
use Rattle.std.specs.Prelude.{◌≡◌, ℕ, false, List}
use mathlib.Core.List.{IsPrefix}
use Rattle.st_journal.specs.declared.record.Record.{Record}
use Rattle.st_journal.specs.declared.journal.Journal.{Ghosts}
use Rattle.st_journal.specs.Leaving.{LeavesOnly}
use Rattle.st_journal.specs.Replays.{Replays}
use Rattle.st_journal_store.specs.Applying.{Applies}
use Rattle.st_hall_press.specs.Steps.{HallState as State, state_after}
use Rattle.st_hall_group_commit.specs.Rolls.{KeptRoll, LeadPast}

pub record IsSound {J : Type 0} (journals : Ghosts J)
    (first start : State) (batch : List Record) (k : KeptRoll J) : Type 0 where
  pub published_kept : IsPrefix k.published k.kept
  pub begins : IsPrefix k.kept k.list
  pub ready : k.is_lost ≡ false → journals.is_ready k.journal
  pub stands : k.is_lost ≡ false → journals.misreads k.journal ≡ 0
      → Replays Applies first (journals.list k.journal) (state_after start k.kept)
  pub waits : k.is_lost ≡ false → Replays Applies (state_after start k.kept) batch (state_after start k.list)
  pub leaves : LeavesOnly journals k.journal (λ left. LeadPast first start k.kept k.list left)
