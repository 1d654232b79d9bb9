-- What a user may ever see at a station, item by item.
use Rattle.std.specs.Prelude.{◌≡◌, ℕ, ◌-◌, true, List, [], ◌∷◌}
use Rattle.st_text.specs.Texts.{Text}
use Rattle.st_http.specs.First.{First}
use Rattle.st_core.specs.Worlds.{NeverSystem, keep}
use Rattle.st_service.specs.Answers.{ForItems, IsBusy, NoneBusy}
use Rattle.st_service.specs.Worlds.{is_of}
use Rattle.st_hall.specs.Steps.{Ask, HallState}
use Rattle.st_hall.specs.Views.{Post, Seat}
use Rattle.st_hall_station.specs.Posts.{StationRun}
use Rattle.st_hall_station.specs.Seats.{SeatAnswers}

-- After each item of a run: what is kept for the user of all that is seen then, and how many receipts were got for the item.
abbrev pub sights : (user : Text) (start : HallState) (s t : Post) (items : List First) (answers : List (List ℕ))
    → StationRun start s items answers t → List (List Ask × ℕ)
sights user start s t [] [] run = []
sights user start s t [] (answer ∷ answers) run = []
sights user start s t (item ∷ items) [] run = []
sights user start s t (item ∷ items) (answer ∷ answers) (mid, told, rest) =
    (keep user start mid.seat.seen, mid.seat.made - s.seat.made) ∷ sights user start mid t items answers rest

-- ---- what is compared

-- an item is answered at a seat, and not by a 503
pub record SeatTells (start : HallState) (item : First) : Type 0 where
  pub before : Seat
  pub after : Seat
  pub answer : List ℕ
  pub told : ForItems (SeatAnswers start) before item answer after
  pub not_busy : IsBusy answer → ⊥

-- it is the user's, who holds SYSTEM at no moment of what is seen then
pub record TellsOwn (user : Text) (start : HallState) (item : First) : Type 0 where
  pub seat : SeatTells start item
  pub own : is_of user item ≡ true
  pub never : NeverSystem user start seat.after.seen

abbrev pub sight_of : {user : Text} {start : HallState} {item : First} → TellsOwn user start item → List Ask × ℕ
sight_of {user} {start} own = (keep user start own.seat.after.seen, own.seat.after.made - own.seat.before.made)

-- items are answered at a post, none by a 503, and the user holds SYSTEM at no moment of what is seen in the end
pub record UnprivilegedRun (user : Text) (start : HallState) (items : List First) : Type 0 where
  pub before : Post
  pub after : Post
  pub texts : List (List ℕ)
  pub run : StationRun start before items texts after
  pub none_busy : NoneBusy texts
  pub never : NeverSystem user start after.seat.seen

abbrev pub sights_of : {user : Text} {start : HallState} {items : List First} → UnprivilegedRun user start items → List (List Ask × ℕ)
sights_of {user} {start} {items} w = sights user start w.before w.after items w.texts w.run
