-- An invariant of a representation, which no reader has to believe: what the two copies hold, and how the queued changes follow.
use Rattle.std.specs.Prelude.{◌≡◌, List, [], ◌∷◌, ◌++◌, Option, None, Some, Result, MatchResult, fold}
use Rattle.st_hall_press.specs.Steps.{Ask, HallState, settled, state_after}
use Rattle.st_hall_press.specs.Views.{IsNext, QueuedValue}

-- a state, and the changes that it stands for
pub record EditionValue : Type 0 where
  pub state : HallState
  pub list : List Ask

-- it goes on some list
abbrev pub IsJudged : HallState → QueuedValue → Type 0
IsJudged start q = (before : List Ask) × IsNext start before q

-- the copy after a change
abbrev pub absorbed : EditionValue → QueuedValue → EditionValue
absorbed e q = record { state = settled e.state q.judged; list = q.list }

-- the copy holds the state after its list
abbrev pub Agrees : HallState → EditionValue → Type 0
Agrees start e = e.state ≡ state_after start e.list

-- each change's list goes on the one before, and the last is ys
abbrev pub Follows : HallState → List Ask → List QueuedValue → List Ask → Type 0
Follows start xs [] ys = xs ≡ ys
Follows start xs (q ∷ qs) ys = IsNext start xs q × Follows start q.list qs ys

-- what is not queued yet
abbrev pub waiting_list : Option QueuedValue → List QueuedValue
waiting_list None = []
waiting_list (Some q) = q ∷ []

-- what waits comes behind what is queued, or all stays as it is
abbrev pub Queues : {B E : Type 0} → Result B E → (old new : List QueuedValue) → (waiting left : Option QueuedValue) → Type 0
Queues result old new waiting left =
    MatchResult result (λ _. (new ≡ old ++ waiting_list waiting) × (left ≡ None)) (λ _. (new ≡ old) × (left ≡ waiting))

-- the copy absorbs all that is queued, or all stays as it is
abbrev pub Publishes : {B E : Type 0} → Result B E → (old new : EditionValue) → (queued left : List QueuedValue) → Type 0
Publishes result old new queued left =
    MatchResult result (λ _. (new ≡ fold absorbed old queued) × (left ≡ [])) (λ _. (new ≡ old) × (left ≡ queued))
