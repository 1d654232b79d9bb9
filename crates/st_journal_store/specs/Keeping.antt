-- A store whose changes are kept, and what is left of it if the process ends.
use Rattle.std.specs.Prelude.{◌≡◌, ◌⊎◌, List, Option, Some, None}
use Rattle.std.specs.declared.alloc.Global.{Global}
use Rattle.st_core.specs.State.{State}
use Rattle.st_core.specs.Step.{settle}
use Rattle.st_journal.specs.declared.record.Record.{Record}
use Rattle.st_journal.specs.Replays.{Replays}
use Rattle.st_journal_store.specs.declared.loss.Loss.{Loss}
use Rattle.st_journal_store.specs.declared.pending.Pending.{Pending}
use Rattle.st_journal_store.specs.Applying.{Applies}

-- The state after all changes that are kept, their journal, the change that was answered last, if it is not kept yet, and why it was
-- lost, if it was.
pub record Keeping (J : Type 0) : Type 0 where
  pub kept : State Global
  pub journal : J
  pub pending : Option Pending
  pub loss : Option Loss

-- the state after the pending change
abbrev pub state_with : State Global → Option Pending → State Global
state_with kept None = kept
state_with kept (Some pending) = (settle kept pending.judged).state

-- the state after all that was answered
abbrev pub answered : {J : Type 0} → Keeping J → State Global
answered k = state_with k.kept k.pending

-- From this first state the records lead to one of these two states.
pub record LeadTo (first kept answered : State Global) (records : List Record) : Type 0 where
  pub after : State Global
  pub made : Replays Applies first records after
  pub is : (after ≡ kept) ⊎ (after ≡ answered)
