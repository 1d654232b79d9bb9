-- What each message is answered at a desk, and the seat that it leaves.
use Rattle.std.specs.Prelude.{◌≡◌, ℕ, ◌+◌, true, false, List, Option, None, option_map}
use mathlib.Core.List.{IsPrefix}
use Rattle.st_policy.specs.declared.denial.Denial.{Denial}
use Rattle.st_policy.specs.declared.refusal.Refusal.{Refusal}
use Rattle.st_policy.specs.declared.reply.Reply.{Reply}
use Rattle.st_core.specs.declared.asked.Token.{Token}
use Rattle.st_core.specs.Step.{asker_of, asks_for_change}
use Rattle.st_connection.specs.Render.{busy_text}
use Rattle.st_service.specs.Answers.{AsksIn, IsRouted, IsUnrouted, Parsed, reply_text, token_from, unrouted_text}
use Rattle.st_hall.specs.Steps.{Ask, HallState, Response, reply_of, state_after}
use Rattle.st_hall.specs.Views.{Seat, EndsAfter}

-- what was seen is seen still, and so many receipts more were got
pub record Moves (more : ℕ) (s t : Seat) : Type 0 where
  pub seen : IsPrefix s.seen t.seen
  pub made : t.made ≡ s.made + more

-- after these changes the token does not hold
abbrev pub IsStrange : HallState → List Ask → Option Token → Type 0
IsStrange start seen token = asker_of (state_after start seen).directory token ≡ None

-- what a stranger is told
abbrev pub no_token : Response
no_token = Reply.Refused (Refusal.Denied Denial.Token)

-- a change ends what is seen then, gets this reply, and is counted
abbrev pub Receives : HallState → (s t : Seat) → Ask → Response → Type 0
Receives start s t asked reply = (asks_for_change asked ≡ true) × EndsAfter start s.seen t.seen asked reply × Moves 1 s t

-- At a seat a message may get this answer, and leave this seat.
pub data SeatAnswers (start : HallState) (s : Seat) (p : Parsed) (answer : List ℕ) (t : Seat) : Type 0 where
  -- a read is told what the state after the seen changes replies
  read : {asked : Ask} → AsksIn p asked → asks_for_change asked ≡ false → Moves 0 s t
      → answer ≡ reply_text (reply_of (state_after start t.seen) asked) p.close p.bare → SeatAnswers start s p answer t
  -- a change is told the last reply of what is seen then, which goes on what was seen before and ends with it, and is counted
  made : {asked : Ask} {reply : Response} → AsksIn p asked → Receives start s t asked reply
      → answer ≡ reply_text reply p.close p.bare → SeatAnswers start s p answer t
  -- a stranger is told so, whatever the body: the token does not hold after what is seen then; it is no change, and is not counted
  stranger : IsRouted p.route → IsStrange start t.seen (option_map token_from p.token) → Moves 0 s t
      → answer ≡ reply_text no_token p.close p.bare → SeatAnswers start s p answer t
  -- out of memory for the text of a refusal, which is counted
  untold : {asked : Ask} {refusal : Refusal} → AsksIn p asked → Receives start s t asked (Reply.Refused refusal)
      → answer ≡ busy_text p.close p.bare → SeatAnswers start s p answer t
  -- out of memory, and no change is made
  busy : Moves 0 s t → answer ≡ busy_text p.close p.bare → SeatAnswers start s p answer t
  -- a message without an endpoint asks nothing
  unrouted : IsUnrouted p.route → t ≡ s → answer ≡ unrouted_text p.route p.close p.bare → SeatAnswers start s p answer t
