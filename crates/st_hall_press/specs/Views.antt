-- What contracts see of a desk, a worker, a clerk, and its two halves.
use Rattle.std.specs.Prelude.{ℕ, Bool, true, false, ◌≡◌, ◌≤◌, ◌⊎◌, List, [], ◌∷◌, ◌++◌, length, sum_by, Option, None}
use mathlib.Core.List.{IsPrefix}
use Rattle.std.specs.declared.alloc.Global.{Global}
use Rattle.st_text.specs.Texts.{Text}
use Rattle.st_core.specs.declared.asked.Token.{Token}
use Rattle.st_core.specs.declared.judged.Judged.{Judged}
use Rattle.st_core.specs.Step.{asker_of, asks_for_change}
use Rattle.st_core.specs.Worlds.{NeverSystem, names}
use Rattle.st_hall_press.specs.Steps.{Ask, HallState, Response, judged_in, reply_of, state_after}

-- the changes that a desk has seen, and how many receipts were got with it
pub record Seat : Type 0 where
  pub seen : List Ask
  pub made : ℕ

-- a desk that has seen these changes, when no receipt was got with it
abbrev pub opening_seat : List Ask → Seat
opening_seat seen = record { seen = seen; made = 0 }

-- how many receipts were got with some desks
abbrev pub receipts : List Seat → ℕ
receipts seats = sum_by (λ seat. seat.made) seats

-- a worker's number, how often it has been asked (2^64 - 1 also where it was more often), the longest front that it learnt (at first
-- what its desk had seen), and its desk
pub record Post : Type 0 where
  pub number : ℕ
  pub calls : ℕ
  pub learnt : List Ask
  pub seat : Seat

-- nothing was learnt, or a front that goes on what was seen before and begins what is seen now
abbrev pub Learns : Post → Post → Type 0
Learns s t = (t.learnt ≡ s.learnt) ⊎ (IsPrefix s.seat.seen t.learnt × IsPrefix t.learnt t.seat.seen)

-- the one list of changes, the part of it that is published, and how many of its changes are said to be kept
pub record Roll : Type 0 where
  pub list : List Ask
  pub published : List Ask
  pub kept : ℕ

-- a judged change, and the list that ends with it
pub record QueuedValue : Type 0 where
  pub judged : Judged Global
  pub list : List Ask

-- the list goes on by one change, judged by the directory after the list before it
abbrev pub IsNext : HallState → List Ask → QueuedValue → Type 0
IsNext start before q =
    (ask : Ask) × (asks_for_change ask ≡ true) × (q.list ≡ before ++ ask ∷ []) × (q.judged ≡ judged_in (state_after start before) ask)

-- the changes that a press was given, those of them that it has published, and whether it has room for the next one
pub record Printed : Type 0 where
  pub pushed : List Ask
  pub published : List Ask
  pub has_room : Bool

-- the list ends with the change, and the reply is the last of its run
abbrev pub EndsWith : HallState → List Ask → Ask → Response → Type 0
EndsWith start list asked reply = (before : List Ask) × (list ≡ before ++ asked ∷ []) × (reply ≡ reply_of (state_after start before) asked)

-- the list goes on what was seen and ends with the change, and the reply is the last of its run
abbrev pub EndsAfter : HallState → (seen list : List Ask) → Ask → Response → Type 0
EndsAfter start seen list asked reply =
    (before : List Ask) × IsPrefix seen before × (list ≡ before ++ asked ∷ []) × (reply ≡ reply_of (state_after start before) asked)

-- after a list that goes on what was seen, the token does not hold
abbrev pub IsStranger : HallState → (seen : List Ask) → Option Token → Type 0
IsStranger start seen token = (list : List Ask) × IsPrefix seen list × (asker_of (state_after start list).directory token ≡ None)

-- after these changes a user reads, who holds SYSTEM at no moment of them
pub record ReadsOwn (user : Text) (start : HallState) (seen : List Ask) (asked : Ask) : Type 0 where
  pub own : names asked.token user ≡ true
  pub reads : asks_for_change asked ≡ false
  pub never : NeverSystem user start seen

-- one of two lists begins the other
abbrev pub Beside : List Ask → List Ask → Type 0
Beside xs ys = (length xs ≤ length ys → IsPrefix xs ys) × (length ys ≤ length xs → IsPrefix ys xs)
