-- What a station does with a connection, and what of it was kept.
use Rattle.std.specs.Prelude.{◌≡◌, ℕ, true, false, List, Result, Ok}
use mathlib.Core.List.{IsPrefix}
use Rattle.st_http.specs.First.{First}
use Rattle.st_connection.specs.Connection.{AreOut, KeptPast, KeptUnlessLost, Run, ServedWithin, WithInterim}
use Rattle.st_connection.specs.Streams.{AreUntouched, Streams}
use Rattle.st_connection.specs.declared.connection.Ended.{Ended}
use Rattle.st_connection.specs.declared.connection.Ended.TheVariants.{Lost}
use Rattle.st_connection.specs.declared.connection.IoFault.{IoFault}
use Rattle.st_hall.specs.Steps.{Ask, HallState}
use Rattle.st_hall.specs.Views.{Post}
use Rattle.st_hall.specs.Decisions.{Standing}
use Rattle.st_hall_station.specs.Posts.{StationAnswers}

-- At a post an item may get this answer, and all that is seen then begins what is kept.
pub record KeptAnswers (start : HallState) (kept : List Ask) (s : Post) (item : First) (answer : List ℕ) (t : Post) : Type 0 where
  pub told : StationAnswers start s item answer t
  pub has : IsPrefix t.seat.seen kept

-- the same of items, one after another
abbrev pub KeptRun : HallState → (kept : List Ask) → Post → List First → List (List ℕ) → Post → Type 0
KeptRun start kept s items answers t = Run (WithInterim (KeptAnswers start kept)) s items answers t

-- A connection that ended as lost: its items and their answers, what was sent, and the synced post, which is no earlier than what is out.
pub record LostRun (start : HallState) : Type 0 where
  pub before : Post
  pub synced : Post
  pub after : Post
  pub items : List First
  pub answers : List (List ℕ)
  pub sent : List ℕ
  pub past : KeptPast (WithInterim (StationAnswers start)) before synced after items answers sent

-- What is out are the answers of the first items, and all that was seen for them begins what is kept; and perhaps the interim response of
-- the next item.
abbrev pub OutKept : HallState → (kept : List Ask) → Post → List First → List (List ℕ) → List ℕ → Type 0
OutKept start kept old items answers sent = (mid : Post) × AreOut (WithInterim (KeptAnswers start kept)) old mid items answers sent

-- A connection was served. Unless it ended as lost, all that was seen is synced.
pub record ServesSound (start : HallState) (hold : ℕ) (s t : Standing) (streams : Streams) (result : Result Ended IoFault) : Type 0 where
  pub within : ServedWithin (StationAnswers start) hold s.post t.post t.synced streams result
  pub unless_lost : KeptUnlessLost t.synced t.post t.has_failed result

-- A connection was not served, since a sync failed before.
pub record ServesNone (s t : Standing) (streams : Streams) (result : Result Ended IoFault) : Type 0 where
  pub lost : result ≡ Ok Lost
  pub same : t ≡ s
  pub untouched : AreUntouched streams

abbrev pub ServesKept : HallState → ℕ → Standing → Standing → Streams → Result Ended IoFault → Type 0
ServesKept start hold s t streams result =
    (s.has_failed ≡ false → ServesSound start hold s t streams result) × (s.has_failed ≡ true → ServesNone s t streams result)
