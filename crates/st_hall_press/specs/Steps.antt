-- Requests and states, as those of the store over the program's own allocator.
use Rattle.std.specs.Prelude.{List}
use Rattle.std.specs.declared.alloc.Global.{Global}
use Rattle.st_core.specs.declared.asked.Asked.{Asked}
use Rattle.st_core.specs.declared.judged.Judged.{Judged}
use Rattle.st_policy.specs.declared.reply.Reply.{Reply}
use Rattle.st_core.specs.State.{State}
use Rattle.st_core.specs.Step.{judge, settle, step, after}

abbrev pub Ask : Type 0
Ask = Asked Global

abbrev pub HallState : Type 0
HallState = State Global

abbrev pub Response : Type 0
Response = Reply Global

-- how a request is judged in a state
unfoldable pub judged_in : HallState → Ask → Judged Global
judged_in s asked = judge s.directory asked

-- the state after a judged change
unfoldable pub settled : HallState → Judged Global → HallState
settled s judged = (settle s judged).state

-- the reply to one request in a state
unfoldable pub reply_of : HallState → Ask → Response
reply_of s asked = (step s asked).reply

-- the state after one request
unfoldable pub next : HallState → Ask → HallState
next s asked = (step s asked).state

-- the state after a list of requests
unfoldable pub state_after : HallState → List Ask → HallState
state_after s asked = after s asked
