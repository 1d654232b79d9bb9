-- Answers at two seats to one item of a user, of whom the same is kept at both.
use Rattle.std.proofs.Common.{◌≡◌, ℕ, ◌-◌, List, [], ◌++◌, Bool, true, false, Option, Some, None, option_map, refl, sym, ◌∙◌, ap, subst, arith}
use Rattle.std.specs.declared.alloc.Global.{Global}
use Rattle.httparse.specs.Grammar.{RequestHead}
use Rattle.st_text.specs.Texts.{Text}
use Rattle.st_http.specs.First.{First, message, fault, more, expects, fields_of}
use Rattle.st_http.specs.Routes.{routed}
use Rattle.st_http.specs.Token.{token_of}
use Rattle.st_core.specs.declared.asked.Token.{Token}
use Rattle.st_core.specs.Step.{asks_for_change}
use Rattle.st_core.specs.Worlds.{NeverSystem, names, keep}
use Rattle.st_connection.specs.Connection.{WithInterim}
use Rattle.st_connection.specs.Render.{fault_text, busy_text, interim}
use Rattle.st_service.specs.Answers.{ForItems, IsBusy, IsUnrouted, close_of, parsed, reply_text, token_from, unrouted_text}
use Rattle.st_service.specs.Worlds.{ItemAsks, is_of}
use Rattle.st_service.proofs.Histories.{asks_one, whose}
use Rattle.st_hall.specs.Steps.{Ask, HallState, Response, reply_of, state_after}
use Rattle.st_hall.specs.Views.{Seat, Post, EndsAfter}
use Rattle.st_hall_station.specs.Seats.{IsStrange, Moves, SeatAnswers, no_token, read, made, stranger, untold, busy, unrouted}
use Rattle.st_hall_station.specs.Posts.{StationAnswers}
use Rattle.st_hall_station.specs.Sights.{SeatTells, TellsOwn, sight_of}
use Rattle.st_hall_station.proofs.Growing.{item_grows}
use Rattle.st_hall_station.proofs.Agreeing.{same_read, same_change, stranger_told}

-- ---- what comes of an item

abbrev NotBusy : List ℕ → Type 0
NotBusy answer = (close bare : Bool) → answer ≡ busy_text close bare → ⊥

abbrev token_at : First → Option Token
token_at (message h body bare) = option_map token_from (token_of (fields_of h))
token_at (fault reason bare) = None
token_at (more waits) = None

-- the answer to an item by its reply, if it asks something
abbrev text_at : First → Option Response → List ℕ
text_at (message h body bare) (Some reply) = reply_text reply (close_of h) bare
text_at (message h body bare) None = unrouted_text (routed h.method h.target) (close_of h) bare
text_at (fault reason bare) reply = fault_text reason bare
text_at (more waits) reply = []

abbrev AsksNothing : First → Type 0
AsksNothing item = ItemAsks {A = Global} item None

-- the ways to a reply at a seat
data Comes (start : HallState) (item : First) (s t : Seat) (reply : Option Response) : Type 0 where
  by_read : (asked : Ask) → ItemAsks item (Some asked) → asks_for_change asked ≡ false
      → reply ≡ Some (reply_of (state_after start t.seen) asked) → Comes start item s t reply
  by_change : (asked : Ask) (told : Response) → ItemAsks item (Some asked) → asks_for_change asked ≡ true
      → EndsAfter start s.seen t.seen asked told → Moves 1 s t → reply ≡ Some told → Comes start item s t reply
  by_stranger : (AsksNothing item → ⊥) → IsStrange start t.seen (token_at item) → Moves 0 s t
      → reply ≡ Some no_token → Comes start item s t reply
  by_nobody : AsksNothing item → reply ≡ None → Comes start item s t reply

record Says (start : HallState) (item : First) (s t : Seat) (answer : List ℕ) : Type 0 where
  pub reply : Option Response
  pub comes : Comes start item s t reply
  pub text : answer ≡ text_at item reply

said : {start : HallState} {s t : Seat} {answer : List ℕ} (h : RequestHead) (body : List ℕ) (bare : Bool) → SeatAnswers start s (parsed h body bare) answer t
    → NotBusy answer → Says start (message h body bare) s t answer
said {start = start} {t = t} h body bare (read {asked = asked} asks still moves is) some = record {
  reply = Some (reply_of (state_after start t.seen) asked);
  comes = by_read asked asks still refl;
  text = is;
}
said h body bare (made {asked = asked} {reply = reply} asks (change, ends, moves) is) some = record {
  reply = Some reply;
  comes = by_change asked reply asks change ends moves refl;
  text = is;
}
said h body bare (stranger (endpoint, name, at) none moves is) some = record {
  reply = Some no_token;
  comes = by_stranger (λ nothing. subst IsUnrouted at nothing) none moves refl;
  text = is;
}
said h body bare (untold asks receives is) some = absurd (some (close_of h) bare is)
said h body bare (busy moves is) some = absurd (some (close_of h) bare is)
said h body bare (unrouted none same is) some = record { reply = None; comes = by_nobody none refl; text = is }

says : (start : HallState) (s t : Seat) (item : First) (answer : List ℕ) → ForItems (SeatAnswers start) s item answer t → NotBusy answer
    → Says start item s t answer
says start s t (message h body bare) answer one some = said h body bare one some
says start s t (fault reason bare) answer (is, same) some = record { reply = None; comes = by_nobody tt refl; text = is }
says start s t (more waits) answer one some = absurd one

-- ---- what an item asks

module _ (item : First) where
  same_asked : (a b : Ask) → ItemAsks item (Some a) → ItemAsks item (Some b) → a ≡ b
  same_asked a b of_a of_b = let e = asks_one item (Some a) (Some b) of_a of_b in cc

  asks_some : (a : Ask) → ItemAsks item (Some a) → AsksNothing item → ⊥
  asks_some a of_a nothing = let e = asks_one item (Some a) None of_a nothing in cc

  not_both : (a b : Ask) → ItemAsks item (Some a) → ItemAsks item (Some b) → asks_for_change a ≡ false → asks_for_change b ≡ true → ⊥
  not_both a b of_a of_b still change =
      let e : false ≡ true = sym still ∙ (ap asks_for_change (same_asked a b of_a of_b) ∙ change) in cc

asks_token : (item : First) (a : Ask) → ItemAsks item (Some a) → a.token ≡ token_at item
asks_token (message h body bare) a asks = asks.asks.token_is
asks_token (fault reason bare) a h = absurd h
asks_token (more waits) a h = absurd h

-- ---- one item

module _ (start : HallState) (user : Text) (item : First) (own : is_of user item ≡ true) (got : ℕ) (s t u v : Seat)
    (here : Moves got s t) (there : Moves got u v) (never : NeverSystem user start t.seen) (never_too : NeverSystem user start v.seen)
    (same : keep user start t.seen ≡ keep user start v.seen) where
  owner : (a : Ask) → ItemAsks item (Some a) → names a.token user ≡ true
  owner a of_a = sym (whose user item a of_a) ∙ own

  -- a read and a stranger
  turned_away : (a : Ask) → ItemAsks item (Some a) → (list : List Ask) → IsStrange start list (token_at item)
      → reply_of (state_after start list) a ≡ no_token
  turned_away a of_a list none =
      stranger_told (state_after start list) a (subst (IsStrange start list) (sym (asks_token item a of_a)) none)

  reads_alike : (a : Ask) → ItemAsks item (Some a) → asks_for_change a ≡ false
      → reply_of (state_after start t.seen) a ≡ reply_of (state_after start v.seen) a
  reads_alike a of_a still = same_read user a (owner a of_a) still start t.seen v.seen never never_too same

  changes_alike : (a b : Ask) (told other : Response) → ItemAsks item (Some a) → ItemAsks item (Some b) → EndsAfter start s.seen t.seen a told
      → EndsAfter start u.seen v.seen b other → told ≡ other
  changes_alike a b told other of_a of_b ends ends_too =
      same_change user a (owner a of_a) start s.seen u.seen t.seen v.seen told other ends
      (subst (λ c. EndsAfter start u.seen v.seen c other) (sym (same_asked item a b of_a of_b)) ends_too) never never_too same

  alike : (reply other : Option Response) → Comes start item s t reply → Comes start item u v other → reply ≡ other
  alike reply other (by_read a of_a still is) (by_read b of_b also is_too) =
      is ∙ (ap Some (reads_alike a of_a still) ∙ (ap (λ c. Some (reply_of (state_after start v.seen) c)) (same_asked item a b of_a of_b) ∙ sym is_too))
  alike reply other (by_read a of_a still is) (by_change b told of_b change ends moves is_too) =
      absurd (not_both item a b of_a of_b still change)
  alike reply other (by_read a of_a still is) (by_stranger asks none moves is_too) =
      is ∙ (ap Some (reads_alike a of_a still ∙ turned_away a of_a v.seen none) ∙ sym is_too)
  alike reply other (by_read a of_a still is) (by_nobody nothing is_too) = absurd (asks_some item a of_a nothing)
  alike reply other (by_change a told of_a change ends moves is) (by_read b of_b still is_too) =
      absurd (not_both item b a of_b of_a still change)
  alike reply other (by_change a x of_a change ends moves is) (by_change b y of_b also ends_too moves_too is_too) =
      is ∙ (ap Some (changes_alike a b x y of_a of_b ends ends_too) ∙ sym is_too)
  alike reply other (by_change a told of_a change ends moves is) (by_stranger asks none moves_too is_too) =
      absurd (omega (arith, here.made, there.made, moves.made, moves_too.made))
  alike reply other (by_change a told of_a change ends moves is) (by_nobody nothing is_too) = absurd (asks_some item a of_a nothing)
  alike reply other (by_stranger asks none moves is) (by_read b of_b still is_too) =
      is ∙ (ap Some (sym (turned_away b of_b t.seen none) ∙ reads_alike b of_b still) ∙ sym is_too)
  alike reply other (by_stranger asks none moves is) (by_change b told of_b change ends moves_too is_too) =
      absurd (omega (arith, here.made, there.made, moves.made, moves_too.made))
  alike reply other (by_stranger asks none moves is) (by_stranger asks_too none_too moves_too is_too) = is ∙ sym is_too
  alike reply other (by_stranger asks none moves is) (by_nobody nothing is_too) = absurd (asks nothing)
  alike reply other (by_nobody nothing is) (by_read b of_b still is_too) = absurd (asks_some item b of_b nothing)
  alike reply other (by_nobody nothing is) (by_change b told of_b change ends moves is_too) = absurd (asks_some item b of_b nothing)
  alike reply other (by_nobody nothing is) (by_stranger asks none moves is_too) = absurd (asks nothing)
  alike reply other (by_nobody nothing is) (by_nobody nothing_too is_too) = is ∙ sym is_too

  equal : (answer other : List ℕ) → ForItems (SeatAnswers start) s item answer t → ForItems (SeatAnswers start) u item other v → NotBusy answer → NotBusy other
      → answer ≡ other
  equal answer other one another some some_too =
      let a = says start s t item answer one some in
      let b = says start u v item other another some_too in
      a.text ∙ (ap (text_at item) (alike a.reply b.reply a.comes b.comes) ∙ sym b.text)

-- what is no 503 behind an interim response is none without
not_busy : (due : Bool) (text answer : List ℕ) → text ≡ interim due ++ answer → (IsBusy text → ⊥) → NotBusy answer
not_busy due text answer is some close bare busy_is = some (due, close, bare, is ∙ ap (λ t. interim due ++ t) busy_is)

pub equal_own : (start : HallState) (user : Text) (item : First) (got : ℕ) (s t u v : Seat) (answer other : List ℕ) → is_of user item ≡ true
    → ForItems (SeatAnswers start) s item answer t → ForItems (SeatAnswers start) u item other v → (IsBusy answer → ⊥) → (IsBusy other → ⊥)
    → Moves got s t → Moves got u v → NeverSystem user start t.seen → NeverSystem user start v.seen
    → keep user start t.seen ≡ keep user start v.seen → answer ≡ other
equal_own start user item got s t u v answer other own one another some some_too here there never never_too same =
    equal start user item own got s t u v here there never never_too same answer other one another
    (not_busy false answer answer refl some) (not_busy false other other refl some_too)

grown : (start : HallState) (item : First) (told : SeatTells start item) → Moves (told.after.made - told.before.made) told.before told.after
grown start item told =
    let grows = item_grows start told.before told.after item told.answer told.told in
    record { seen = grows.0; made = omega (arith, grows.1) }

pub own_equal : (start : HallState) (user : Text) (item : First) (one two : TellsOwn user start item) → sight_of one ≡ sight_of two
    → one.seat.answer ≡ two.seat.answer
own_equal start user item one two same =
    let a = one.seat in
    let b = two.seat in
    let counted : a.after.made - a.before.made ≡ b.after.made - b.before.made = ap (λ (sight : List Ask × ℕ). sight.1) same in
    let kept : keep user start a.after.seen ≡ keep user start b.after.seen = ap (λ (sight : List Ask × ℕ). sight.0) same in
    equal_own start user item (a.after.made - a.before.made) a.before a.after b.before b.after a.answer b.answer one.own a.told b.told
    a.not_busy b.not_busy (grown start item a) (subst (λ n. Moves n b.before b.after) (sym counted) (grown start item b)) one.never two.never kept

at_seat : (start : HallState) (item : First) (s t : Post) (answer : List ℕ) → StationAnswers start s item answer t
    → ForItems (SeatAnswers start) s.seat item answer t.seat
at_seat start (message h body bare) s t answer one = one.seat
at_seat start (fault reason bare) s t answer (is, same) = (is, ap (λ (u : Post). u.seat) same)
at_seat start (more waits) s t answer one = one

-- each behind its interim response
pub equal_told : (start : HallState) (user : Text) (item : First) (got : ℕ) (s t u v : Post) (text other : List ℕ) → is_of user item ≡ true
    → WithInterim (StationAnswers start) s item text t → WithInterim (StationAnswers start) u item other v → (IsBusy text → ⊥) → (IsBusy other → ⊥)
    → Moves got s.seat t.seat → Moves got u.seat v.seat → NeverSystem user start t.seat.seen → NeverSystem user start v.seat.seen
    → keep user start t.seat.seen ≡ keep user start v.seat.seen → text ≡ other
equal_told start user item got s t u v text other own (answer, is, one) (reply, is_too, another) some some_too here there never never_too same =
    let bytes = equal start user item own got s.seat t.seat u.seat v.seat here there never never_too same answer reply
    (at_seat start item s t answer one) (at_seat start item u v reply another)
    (not_busy (expects item) text answer is some) (not_busy (expects item) other reply is_too some_too) in
    is ∙ (ap (λ t. interim (expects item) ++ t) bytes ∙ sym is_too)

-- ---- an item that asks nothing

none_comes : (start : HallState) (item : First) (s t : Seat) (reply : Option Response) → AsksNothing item → Comes start item s t reply → reply ≡ None
none_comes start item s t reply nothing (by_read a of_a still is) = absurd (asks_some item a of_a nothing)
none_comes start item s t reply nothing (by_change a told of_a change ends moves is) = absurd (asks_some item a of_a nothing)
none_comes start item s t reply nothing (by_stranger asks none moves is) = absurd (asks nothing)
none_comes start item s t reply nothing (by_nobody also is) = is

none_said : (start : HallState) (item : First) (s t : Seat) (answer : List ℕ) → AsksNothing item → ForItems (SeatAnswers start) s item answer t → (IsBusy answer → ⊥)
    → answer ≡ text_at item None
none_said start item s t answer nothing one some =
    let a = says start s t item answer one (not_busy false answer answer refl some) in
    a.text ∙ ap (text_at item) (none_comes start item s t a.reply nothing a.comes)

pub equal_unasked : (start begun : HallState) (item : First) (s t u v : Seat) (answer other : List ℕ) → ItemAsks {A = Global} item None
    → ForItems (SeatAnswers start) s item answer t → ForItems (SeatAnswers begun) u item other v → (IsBusy answer → ⊥) → (IsBusy other → ⊥) → answer ≡ other
equal_unasked start begun item s t u v answer other nothing one another some some_too =
    none_said start item s t answer nothing one some ∙ sym (none_said begun item u v other nothing another some_too)
