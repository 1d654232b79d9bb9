-- What the workers of a server did.
use Rattle.std.specs.Prelude.{◌≡◌, ◌⊎◌, ◌<◌, ◌+◌, ℕ, false, Option, Some, Result, Err, List, [], All, OnOk, length, slice_index_or, sum_by}
use mathlib.Core.List.{IsPrefix}
use Rattle.st_server_peer.specs.Meeting.{Call, Serving}
use Rattle.st_server_workers.specs.Working.{WorkedEach}
use Rattle.st_server_workers.specs.declared.working.Worked.{Worked}
use Rattle.st_command_line.specs.declared.fault.Fault.{Fault}
use Rattle.st_command_line.specs.declared.fault.Fault.TheVariants.{NoMemory, StoreLost}
use Rattle.st_hall.specs.Steps.{Ask, HallState as State}
use Rattle.st_hall.specs.Views.{Post, Seat, opening_seat}
use Rattle.st_hall.specs.Decisions.{Standing}
use Rattle.st_connection.specs.Streams.{Streams}
use Rattle.st_connection.specs.declared.connection.Ended.{Ended}
use Rattle.st_connection.specs.declared.connection.IoFault.{IoFault}
use Rattle.st_hall_station.specs.Standing.{ServesKept}

-- the post of a worker of this number at a desk of a hall that was just opened
abbrev pub new_post : ℕ → Post
new_post number = record { number = number; calls = 0; learnt = []; seat = opening_seat [] }

abbrev pub new_station : ℕ → Standing
new_station number = record { post = new_post number; synced = new_post number; has_failed = false }

-- the stations of such workers, numbered from 1
abbrev pub AreNew : List Standing → Type 0
AreNew stations = (k : ℕ) (d : Standing) → k < length stations → slice_index_or stations k d ≡ new_station (k + 1)

-- how many bytes of answers a station holds back where a journal keeps the changes
abbrev pub held_back : ℕ
held_back = 16384

-- the desk of a worker, in the end
abbrev pub desk_of : {T : Type 0} → (T → Standing) → Worked T → Seat
desk_of standing worker = (standing worker.attendant).post.seat

-- what had been seen there when the worker was last synced
abbrev pub synced_of : {T : Type 0} → (T → Standing) → Worked T → List Ask
synced_of standing worker = (standing worker.attendant).synced.seat.seen

-- All that was seen at the desks of these workers is of one list of changes, which is as long as receipts were got at the desks.
pub record HaveOneList {T : Type 0} (standing : T → Standing) (workers : List (Worked T)) (list : List Ask) : Type 0 where
  pub seen : All (λ worker. IsPrefix (desk_of standing worker).seen list) workers
  pub counted : length list ≡ sum_by (λ worker. (desk_of standing worker).made) workers

-- what is kept has all that had been seen when each of these workers was last synced
abbrev pub HasSynced : {T : Type 0} → (T → Standing) → List (Worked T) → (kept : List Ask) → Type 0
HasSynced standing workers kept = All (λ worker. IsPrefix (synced_of standing worker) kept) workers

-- Each of these attendants met its clients, by one list of changes. What is kept of it has all that was seen when its worker was last
-- synced, and of both this holds.
pub record WorkedAsOne {T P : Type 0} (holds : (kept list : List Ask) → Type 0) (serves : Serving T) (call : P → Call)
    (standing : T → Standing) (attendants : List T) (workers : List (Worked T)) : Type 0 where
  pub each : WorkedEach serves call attendants workers
  pub list : List Ask
  pub one : HaveOneList standing workers list
  pub kept : List Ask
  pub has : HasSynced standing workers kept
  pub is : holds kept list

-- the whole list is kept, and just that is left
abbrev pub KeptWhole : (leaves : (kept list : List Ask) → Type 0) → (kept list : List Ask) → Type 0
KeptWhole leaves kept list = (kept ≡ list) × leaves kept list

-- A connection was served so, and what is kept has all that had been seen when its station was last synced.
pub record ServesWithin (start : State) (hold : ℕ) (kept : List Ask) (s t : Standing) (streams : Streams) (result : Result Ended IoFault)
    : Type 0 where
  pub served : ServesKept start hold s t streams result
  pub has : IsPrefix t.synced.seat.seen kept

-- What the workers of these attendants did in a run that ended so; of a hall it is said what is left of its list. A run that ends well
-- met as many clients as it was to meet, and all changes were kept. Where memory ran out, or no worker served to the end, it may not be
-- known what they did.
pub record AttendsFrom {T P : Type 0} (leaves : (kept list : List Ask) → Type 0) (serves : Serving T) (call : P → Call)
    (standing : T → Standing) (attendants : List T) (connections : Option ℕ) (ended : Result Unit Fault) : Type 0 where
  pub workers : List (Worked T)
  pub each : (workers ≡ []) ⊎ WorkedEach serves call attendants workers
  pub ok : OnOk ended (WorkedAsOne (KeptWhole leaves) serves call standing attendants workers)
  pub lost : ended ≡ Err StoreLost → WorkedAsOne leaves serves call standing attendants workers
  pub known : (ended ≡ Err NoMemory → ⊥) → (workers ≡ []) ⊎ WorkedAsOne leaves serves call standing attendants workers
  pub number : OnOk ended (connections ≡ Some (sum_by (λ w. w.count) workers))

-- The same of a hall: each worker is a station of it.
pub record Attends {P : Type 0} (call : P → Call) (start : State) (leaves : (kept list : List Ask) → Type 0) (hold : ℕ)
    (connections : Option ℕ) (ended : Result Unit Fault) : Type 0 where
  pub stations : List Standing
  pub new : AreNew stations
  pub attends : AttendsFrom leaves (ServesKept start hold) call (λ station. station) stations connections ended
