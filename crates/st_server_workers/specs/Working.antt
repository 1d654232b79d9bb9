-- What the workers of a server did.
use Rattle.std.specs.Prelude.{◌≡◌, ◌⊎◌, ◌<◌, ℕ, Option, Some, List, [], IfOk, IfErr, length, slice_index_or, sum_by}
use Rattle.st_server_peer.specs.Meeting.{Call, Met, Serving}
use Rattle.st_server_workers.specs.Telling.{Stops}
use Rattle.st_server_workers.specs.declared.attending.Attended.{Attended}
use Rattle.st_server_workers.specs.declared.working.Worked.{Worked}

-- The worker met its clients, from what this attendant was.
abbrev pub IsWorked : {T P : Type 0} → Serving T → (P → Call) → T → Worked T → Type 0
IsWorked serves call attendant worker = Met serves call attendant worker.count worker.attendant

-- The worker at each place met its clients, from what the attendant at that place was.
abbrev pub WorkedEach : {T P : Type 0} → Serving T → (P → Call) → List T → List (Worked T) → Type 0
WorkedEach serves call before workers =
    (length workers ≡ length before)
    × ((i d e : _) → i < length workers → IsWorked serves call (slice_index_or before i d) (slice_index_or workers i e))

-- What came of serving by these attendants. Where it ends well, the workers met as many clients in all as it says, and as they were to.
pub record Attending {T P : Type 0} (serves : Serving T) (call : P → Call) (attendants : List T) (connections : Option ℕ)
    (attended : Attended T) : Type 0 where
  pub each : (attended.workers.items ≡ []) ⊎ WorkedEach serves call attendants attended.workers.items
  pub all : IfOk attended.ended (λ number. WorkedEach serves call attendants attended.workers.items)
  pub ok : IfOk attended.ended (λ number. (connections ≡ Some number) × (sum_by (λ w. w.count) attended.workers.items ≡ number))
  pub err : IfErr attended.ended Stops
