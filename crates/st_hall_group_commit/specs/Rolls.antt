-- What contracts see of what keeps and publishes changes, and what is left of it if the process ends.
use Rattle.std.specs.Prelude.{◌≡◌, ◌⊎◌, ℕ, Bool, List, drop, take}
use mathlib.Core.List.{IsPrefix}
use Rattle.st_journal.specs.declared.record.Record.{Record}
use Rattle.st_journal.specs.declared.journal.Journal.{Ghosts}
use Rattle.st_journal.specs.Leaving.{LeavesOnly}
use Rattle.st_journal.specs.Replays.{Replays}
use Rattle.st_journal.specs.Faults.{FaultsRise}
use Rattle.st_journal_store.specs.Applying.{Applies}
use Rattle.st_hall_press.specs.Steps.{Ask, HallState as State, state_after}

-- The one list of changes as far as an append was given it, the part of it that is kept, the part that is published, the journal, and
-- whether an append failed.
pub record KeptRoll (J : Type 0) : Type 0 where
  pub list : List Ask
  pub kept : List Ask
  pub published : List Ask
  pub journal : J
  pub is_lost : Bool

-- From the first state the records lead to the state after a beginning of the list, with at least the changes that are kept.
pub record LeadPast (first start : State) (kept list : List Ask) (records : List Record) : Type 0 where
  pub front : List Ask
  pub past : IsPrefix kept front
  pub begins : IsPrefix front list
  pub made : Replays Applies first records (state_after start front)

-- The state is that after a beginning of the list, with at least the changes that are kept.
abbrev pub IsPast : (start : State) (kept list : List Ask) (state : State) → Type 0
IsPast start kept list state = (front : List Ask) × IsPrefix kept front × IsPrefix front list × (state ≡ state_after start front)

-- Whatever a journal may leave, if the process ends at some moment, leads so.
pub record Leaves {J : Type 0} (journals : Ghosts J) (first start : State) (kept list : List Ask) : Type 0 where
  pub journal : J
  pub leads : LeavesOnly journals journal (λ left. LeadPast first start kept list left)

-- From the first state they lead to the state after one of two lists.
abbrev pub LeadToOne : (first start : State) (one other : List Ask) (records : List Record) → Type 0
LeadToOne first start one other records =
    Replays Applies first records (state_after start one) ⊎ Replays Applies first records (state_after start other)

-- During some call the disk of a journal failed or refused.
pub record Failing {J : Type 0} (journals : Ghosts J) : Type 0 where
  pub old : J
  pub new : J
  pub rose : journals.misreads new ≡ 0 → FaultsRise (journals.faults old) (journals.faults new)

abbrev pub HasFailed : {J : Type 0} → Ghosts J → Type 0
HasFailed journals = ∥ Failing journals ∥₁

-- These records were read: at some moment they were what the journal's list had behind the first so many, at most so many, and that list
-- led from the first state to the state after these changes, which were kept.
pub record WasRead {J : Type 0} (journals : Ghosts J) (first start : State) (kept : List Ask) (from most : ℕ)
    (records : List Record) : Type 0 where
  pub journal : J
  pub stood : journals.misreads journal ≡ 0 → records ≡ take most (drop from (journals.list journal))
  pub stands : journals.misreads journal ≡ 0 → Replays Applies first (journals.list journal) (state_after start kept)
