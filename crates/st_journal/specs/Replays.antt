-- What the records of a journal make of a state.
use Rattle.std.specs.Prelude.{◌≡◌, List, [], ◌∷◌}
use Rattle.st_journal.specs.declared.record.Record.{Record}

-- The records lead from the first state to the second, one after another.
abbrev pub Replays : {S : Type 0} → (S → Record → S → Type 0) → S → List Record → S → Type 0
Replays applies before [] after = after ≡ before
Replays {S} applies before (change ∷ changes) after = (mid : S) × applies before change mid × Replays applies mid changes after
