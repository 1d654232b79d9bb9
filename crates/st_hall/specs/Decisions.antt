-- What a change comes to at a desk, and where an answered change stands.
use Rattle.std.specs.Prelude.{ℕ, Bool, ◌≡◌, List, ◌∷◌, ◌++◌, Option, None, Some}
use mathlib.Core.List.{IsPrefix}
use Rattle.st_core.specs.Step.{asker_of}
use Rattle.st_hall_press.specs.Steps.{Ask, HallState, Response, reply_of, state_after}
use Rattle.st_hall_press.specs.Views.{EndsAfter, Post}

-- What a change came to at a desk that had seen these changes, and the list that says so, which goes on what was seen. A change with a
-- reply ends the list, and the reply is the last of its run. Where there is none, the token does not hold after the list.
abbrev pub Decides : HallState → (seen : List Ask) → Ask → Option Response → (list : List Ask) → Type 0
Decides start seen asked (Some reply) list = EndsAfter start seen list asked reply
Decides start seen asked None list = IsPrefix seen list × (asker_of (state_after start list).directory asked.token ≡ None)

-- how many receipts it counts
abbrev pub counted : Option Response → ℕ
counted None = 0
counted (Some reply) = 1

-- The change stands in the list, and the reply is that of its place.
abbrev pub StandsIn : HallState → (list : List Ask) → Ask → Response → Type 0
StandsIn start list asked reply =
    (before later : List Ask) × (list ≡ before ++ asked ∷ later) × (reply ≡ reply_of (state_after start before) asked)

-- a worker's post, the same at its last sync, and whether a sync failed
pub record Standing : Type 0 where
  pub post : Post
  pub synced : Post
  pub has_failed : Bool
