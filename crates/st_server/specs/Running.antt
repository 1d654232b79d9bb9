-- What a run does and tells, by the status that it gives.
use Rattle.std.specs.Prelude.{◌≡◌, ◌⊎◌, ℕ, Option, List}
use Rattle.st_text.specs.Texts.{Text}
use Rattle.st_journal.specs.declared.record.Record.{Record}
use Rattle.st_journal.specs.declared.journal.Journal.{Ghosts}
use Rattle.st_command_line.specs.ServedArguments.{RefusesServedWords}
use Rattle.st_command.specs.Opening.{Fails}
use Rattle.st_server_peer.specs.Meeting.{Call}
use Rattle.st_server.specs.Keeping.{RunsKept}
use Rattle.st_server.specs.Serving.{RunsInMemory}

-- It serves from memory or from a store, or the words are refused, and nothing was told.
abbrev pub RunsServer : {P J : Type 0} → (P → Call) → ((path opening : List ℕ) → List Record → Type 0) → Ghosts J → List Text
    → (old new : Option (List ℕ)) → (status : ℕ) → Type 0
RunsServer call holds journals words old new status =
    RunsInMemory call words old new status
    ⊎ (Fails (RefusesServedWords words) (new ≡ old) status ⊎ RunsKept call holds journals words old new status)
