-- What each message and each item is answered at a worker's post, and the post that it leaves.
use Rattle.std.specs.Prelude.{◌≡◌, ℕ, ◌+◌, ◌-◌, ◌^◌, min, List}
use Rattle.st_http.specs.declared.message.Message.{Message}
use Rattle.st_http.specs.First.{First}
use Rattle.st_connection.specs.Connection.{Run, WithInterim}
use Rattle.st_service.specs.Answers.{ForItems, Parsed, parsed_in}
use Rattle.st_hall.specs.Steps.{HallState}
use Rattle.st_hall.specs.Views.{Post, Learns}
use Rattle.st_hall_station.specs.Seats.{SeatAnswers}

-- At a post a message may get this answer, and leave this post. It is one call; a worker numbers its calls from 1 and stays at 2^64 - 1.
pub record PostAnswers (start : HallState) (s : Post) (p : Parsed) (answer : List ℕ) (t : Post) : Type 0 where
  pub seat : SeatAnswers start s.seat p answer t.seat
  pub number : t.number ≡ s.number
  pub calls : t.calls ≡ min (s.calls + 1) (2 ^ 64 - 1)
  pub learns : Learns s t

-- A message of the code may get this answer.
abbrev pub StationReplies : HallState → Post → Message → List ℕ → Post → Type 0
StationReplies start s m answer t = PostAnswers start s (parsed_in m) answer t

-- At a post an item may get this answer, and leave this post.
abbrev pub StationAnswers : HallState → Post → First → List ℕ → Post → Type 0
StationAnswers start s item answer t = ForItems (PostAnswers start) s item answer t

-- From a post on, items may get these answers, each behind its interim response, and leave this post.
abbrev pub StationRun : HallState → Post → List First → List (List ℕ) → Post → Type 0
StationRun start s items answers t = Run (WithInterim (StationAnswers start)) s items answers t
