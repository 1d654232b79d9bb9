-- An invariant of a representation, which no reader has to believe: the journal's list leads to the store, and its disk failed where
-- that is why a change was lost.
use Rattle.std.specs.Prelude.{◌≡◌, ◌≤◌, ℕ, Some, None, List, IfSome}
use Rattle.std.specs.declared.alloc.Global.{Global}
use Rattle.st_core.specs.State.{State}
use Rattle.st_core.specs.Judging.{JudgesChange}
use Rattle.st_core.specs.Step.{settle}
use Rattle.st_journal.specs.declared.record.Record.{Record}
use Rattle.st_journal.specs.declared.journal.Journal.{Ghosts}
use Rattle.st_journal.specs.Leaving.{LeavesOnly}
use Rattle.st_journal.specs.Faults.{FaultsRise}
use Rattle.st_journal.specs.Replays.{Replays}
use Rattle.st_journal_store.specs.declared.loss.Loss.TheVariants.{Disk}
use Rattle.st_journal_store.specs.declared.pending.Pending.{Pending}
use Rattle.st_journal_store.specs.Applying.{Applies}
use Rattle.st_journal_store.specs.Keeping.{Keeping, LeadTo, answered}

-- the record is that of the change
pub record IsNoted (kept : State Global) (pending : Pending) : Type 0 where
  pub change : JudgesChange kept.directory pending.judged
  pub noted : Applies kept pending.note (settle kept pending.judged).state

pub record IsSound {J : Type 0} (journals : Ghosts J) (first : State Global) (begun : ℕ)
    (k : Keeping J) : Type 0 where
  pub ready : k.loss ≡ None → journals.is_ready k.journal
  pub stands : k.loss ≡ None → journals.misreads k.journal ≡ 0 → Replays Applies first (journals.list k.journal) k.kept
  pub leaves : LeavesOnly journals k.journal (λ left. LeadTo first k.kept (answered k) left)
  pub waits : IfSome k.pending (IsNoted k.kept)
  pub grown : begun ≤ journals.faults k.journal
  pub disk : journals.misreads k.journal ≡ 0 → k.loss ≡ Some Disk → FaultsRise begun (journals.faults k.journal)
