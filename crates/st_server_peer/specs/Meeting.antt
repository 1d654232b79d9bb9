-- What a server did with a client.
use Rattle.std.specs.Prelude.{◌≡◌, ℕ, Bool, true, Option, Some, None, List, [], ◌∷◌, length, Result}
use Rattle.st_connection.specs.Connection.{EndsOn}
use Rattle.st_connection.specs.Streams.{Streams}
use Rattle.st_connection.specs.declared.connection.TheConstants.{MAX_READS}
use Rattle.st_connection.specs.declared.connection.Ended.{Ended}
use Rattle.st_connection.specs.declared.connection.IoFault.{IoFault}

-- A connection as it was accepted: all that its client sends and what was written to it, where they are known, and whether it may fail
-- before a byte is read.
pub record Call : Type 0 where
  pub sends : Option (List ℕ)
  pub held : Option (List ℕ)
  pub may_fail : Bool

-- what an attendant does with a connection, as `serves` of `Attend` says it
abbrev pub Serving : Type 0 → Type 1
Serving T = T → T → Streams → Result Ended IoFault → Type 0

-- The attendant served the client, from the first byte that it sends on, and the conversation ended so for a cause.
pub record Answered {T : Type 0} (serves : Serving T) (s : T) (call : Call) (ended : Result Ended IoFault) (t : T) : Type 0 where
  pub streams : Streams
  pub served : serves s t streams ended
  pub ends : EndsOn MAX_READS streams ended
  pub begun : (streams.left_old ≡ call.sends) × (streams.held_old ≡ call.held)

-- It did so; or the connection failed before, and nothing was done.
abbrev pub MeetsClient : {T : Type 0} → Serving T → T → Call → Option (Result Ended IoFault) → T → Type 0
MeetsClient serves s call (Some ended) t = Answered serves s call ended t
MeetsClient serves s call None t = (call.may_fail ≡ true) × (t ≡ s)

-- The attendant met these clients, one after another; the last of them stands first.
abbrev pub MeetsAll : {T P : Type 0} → Serving T → (P → Call) → T → List P → T → Type 0
MeetsAll serves call s [] t = t ≡ s
MeetsAll {T} serves call s (client ∷ before) t =
    (mid : T) × (ended : Option (Result Ended IoFault)) × MeetsAll serves call s before mid × MeetsClient serves mid (call client) ended t

-- It met so many clients.
abbrev pub Met : {T P : Type 0} → Serving T → (P → Call) → T → ℕ → T → Type 0
Met {T} {P} serves call s count t = (clients : List P) × (length clients ≡ count) × MeetsAll serves call s clients t
