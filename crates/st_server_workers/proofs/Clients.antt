-- How the clients that an attendant meets are counted.
use Rattle.std.proofs.Common.{◌≡◌, ◌+◌, ℕ, Option, Result, [], ◌∷◌, refl, arith}
use Rattle.st_connection.specs.declared.connection.Ended.{Ended}
use Rattle.st_connection.specs.declared.connection.IoFault.{IoFault}
use Rattle.st_server_peer.specs.Meeting.{Call, MeetsClient, Met, Serving}

pub nobody : {T P : Type 0} (serves : Serving T) (call : P → Call) (s : T) → Met serves call s 0 s
nobody serves call s = ([], refl, refl)

pub one_more : {T P : Type 0} (serves : Serving T) (call : P → Call) (s mid t : T) (count more : ℕ) (client : P)
    (ended : Option (Result Ended IoFault)) → more ≡ count + 1 → Met serves call s count mid → MeetsClient serves mid (call client) ended t
    → Met serves call s more t
one_more serves call s mid t count more client ended is met meets = (client ∷ met.0, omega (arith, met.1, is), (mid, ended, met.2, meets))
