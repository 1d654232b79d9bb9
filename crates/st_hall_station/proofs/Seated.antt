-- Answers at a desk, by what was asked and told.
use Rattle.std.proofs.Common.{rules, ◌≡◌, ◌⊎◌, inl, inr, ℕ, ◌+◌, Bool, true, false, List, [], Option, Some, None, option_map, refl, sym, ◌∙◌, ap, subst, arith}
use Rattle.std.specs.Prelude.{Result, Ok, Err, IfOk, IfSome, OnErr, MatchResult}
use Rattle.std.proofs.lemmas.List.{append-nil}
use mathlib.Core.List.{IsPrefix}
use Rattle.st_http.specs.declared.message.Message.{Message}
use Rattle.st_text.specs.Texts.{Text}
use Rattle.st_policy.specs.declared.refusal.Refusal.{Refusal}
use Rattle.st_policy.specs.declared.request.Request.{Request}
use Rattle.st_policy.specs.Requests.{is_change}
use Rattle.st_policy.specs.Policy.{refusal_of}
use Rattle.st_core.specs.declared.asked.Call.{Call}
use Rattle.st_policy.specs.declared.reply.Reply.{Reply}
use Rattle.st_core.specs.Reads.{shown}
use Rattle.st_core.specs.Step.{asker_of, asks_for_change, calls_for_change, judge_call, settle}
use Rattle.st_core.specs.declared.judged.Judged.TheVariants.{Heard}
use Rattle.st_connection.specs.Render.{busy_text}
use Rattle.st_http.specs.declared.routes.Route.{Route}
use Rattle.st_http.specs.declared.routes.Route.TheVariants as routes
use Rattle.st_http.specs.Routes.{Routed, RepresentsRoute, found}
use Rattle.st_service.specs.Answers as service
use Rattle.st_service.specs.Answers.{AsksBy, IsFound, IsUnrouted, RepliesTo, StateAnswers, RendersOrBusy, parsed_in, reply_text, route_in, token_from, token_in}
use Rattle.st_service.specs.inner.Represented.{asks_in, route_is}
use Rattle.st_hall.specs.Steps.{Ask, HallState, Response, reply_of, state_after}
use Rattle.st_hall.specs.Views.{Seat, Post, EndsAfter, Learns}
use Rattle.st_hall.specs.Decisions.{Decides, counted}
use Rattle.st_hall.specs.declared.commits.Undecided.{Undecided}
use Rattle.st_hall_press.proofs.Fronts.{prefix_trans}
use Rattle.st_hall_station.specs.Seats.{IsStrange, Moves, SeatAnswers, no_token, read, made, stranger, untold, busy, unrouted}

-- a change is told to be made, or is refused
shown_change : (s : HallState) (asker : Text) (request : Request _) → is_change request ≡ true → shown s asker request ≡ Reply.Accepted
shown_change s asker Request.Whoami e = cc
shown_change s asker _ e = first_of (search rules, cc)

heard_change : (s : HallState) (asker : Text) (request : Request _) (o : Option Refusal) → is_change request ≡ true
    → ((settle s (Heard asker request o)).reply ≡ Reply.Accepted) ⊎ ((refusal : Refusal) × ((settle s (Heard asker request o)).reply ≡ Reply.Refused refusal))
heard_change s asker request None e = inl (shown_change s asker request e)
heard_change s asker request (Some refusal) e = inr (refusal, refl)

judged_change : (s : HallState) (o : Option Text) (call : Call _) → calls_for_change call ≡ true
    → ((settle s (judge_call s.directory o call)).reply ≡ Reply.Accepted) ⊎ ((refusal : Refusal) × ((settle s (judge_call s.directory o call)).reply ≡ Reply.Refused refusal))
judged_change s None call e = inr (_, refl)
judged_change s (Some asker) (Call.Bad refusal) e = cc
judged_change s (Some asker) (Call.Good request) e = heard_change s asker request (refusal_of s.directory asker request) e

change_told : (s : HallState) (asked : Ask) → asks_for_change asked ≡ true → (reply_of s asked ≡ Reply.Accepted) ⊎ ((refusal : Refusal) × (reply_of s asked ≡ Reply.Refused refusal))
unfolding reply_of
change_told s asked e = judged_change s (asker_of s.directory asked.token) asked.call e

-- a stranger is refused, or no memory was found for the text
pub seated_stranger : (start : HallState) (s t : Seat) (m : Message) (bytes : List ℕ) → IsFound m
    → IsStrange start t.seen (option_map token_from (token_in m)) → Moves 0 s t → RendersOrBusy no_token m.close m.bare bytes → SeatAnswers start s (parsed_in m) bytes t
seated_stranger start s t m bytes is_found none moves (inl is) =
    stranger (is_found.0, is_found.1, sym (route_is m.route (found is_found.0 is_found.1) is_found.2)) none moves is
seated_stranger start s t m bytes is_found none moves (inr (is, other)) = busy moves is

-- what was seen before is seen still
moved_on : (more : ℕ) (s u t : Seat) → Moves 0 s u → Moves more u t → Moves more s t
moved_on more s u t before m = record { seen = prefix_trans s.seen u.seen t.seen before.seen m.seen; made = omega (arith, before.made, m.made) }

ended_on : (start : HallState) (s u t : Seat) (asked : Ask) (reply : Response) → Moves 0 s u → EndsAfter start u.seen t.seen asked reply
    → EndsAfter start s.seen t.seen asked reply
ended_on start s u t asked reply before (front, on, ends, told) = (front, prefix_trans s.seen u.seen front before.seen on, ends, told)

-- an answer at a later seat is one at the seat before
pub seated_later : (start : HallState) (s u t : Seat) (m : Message) (bytes : List ℕ) → IsFound m → Moves 0 s u → SeatAnswers start u (parsed_in m) bytes t
    → SeatAnswers start s (parsed_in m) bytes t
seated_later start s u t m bytes is_found before (read asks is_read moves is) = read asks is_read (moved_on 0 s u t before moves) is
seated_later start s u t m bytes is_found before (made {asked} {reply} asks (changes, ends, moves) is) =
    made {asked = asked} {reply = reply} asks (changes, ended_on start s u t asked reply before ends, moved_on 1 s u t before moves) is
seated_later start s u t m bytes is_found before (stranger at none moves is) = stranger at none (moved_on 0 s u t before moves) is
seated_later start s u t m bytes is_found before (untold {asked} {refusal} asks (changes, ends, moves) is) =
    untold {asked = asked} {refusal = refusal} asks (changes, ended_on start s u t asked (Reply.Refused refusal) before ends, moved_on 1 s u t before moves) is
seated_later start s u t m bytes is_found before (busy moves is) = busy (moved_on 0 s u t before moves) is
seated_later start s u t m bytes (e, name, at) before (unrouted none same is) =
    absurd (subst IsUnrouted (sym (route_is m.route (found e name) at)) none)

represents_route : (route : Route) (r : Routed) → route_in route ≡ r → RepresentsRoute route r
represents_route (routes.Found l n) r is = sym is
represents_route routes.NoRoute r is = sym is
represents_route (routes.BadMethod allow) r is = sym is

-- a message without an endpoint is answered as by a service
nobody : (start : HallState) (s : Seat) (m : Message) (bytes : List ℕ) → (IsFound m → ⊥) → StateAnswers start (parsed_in m) bytes start
    → SeatAnswers start s (parsed_in m) bytes s
nobody start s m bytes none (service.told asks after is) = absurd (none (asks.endpoint, asks.name, represents_route m.route (found asks.endpoint asks.name) asks.route))
nobody start s m bytes none (service.busy same is) = busy (record { seen = ([], append-nil s.seen); made = omega arith }) is
nobody start s m bytes none (service.untold asks after refused is) =
    absurd (none (asks.endpoint, asks.name, represents_route m.route (found asks.endpoint asks.name) asks.route))
nobody start s m bytes none (service.unrouted at same is) = unrouted at refl is

pub seated_nobody : (start : HallState) (s : Seat) (m : Message) (bytes : List ℕ) → (IsFound m → ⊥) → ((state : HallState) → RepliesTo state m bytes state)
    → SeatAnswers start s (parsed_in m) bytes s
seated_nobody start s m bytes none told = nobody start s m bytes none (told start)

pub learns_later : (s u t : Post) → u.learnt ≡ s.learnt → Moves 0 s.seat u.seat → Learns u t → Learns s t
learns_later s u t learnt before (inl same) = inl (same ∙ learnt)
learns_later s u t learnt before (inr (on, knows)) = inr (prefix_trans s.seat.seen u.seat.seen t.learnt before.seen on, knows)

module _ (start : HallState) (s t : Seat) (m : Message) (bytes : List ℕ) (asked : Ask) where
  -- nothing was made of what was asked
  unmade : IsPrefix s.seen t.seen → (asks_for_change asked ≡ true → t.made ≡ s.made) → (asks_for_change asked ≡ false → t.made ≡ s.made) → Moves 0 s t
  unmade seen changed kept = record { seen = seen; made = go (asks_for_change asked) refl }
    where
      go : (b : Bool) → asks_for_change asked ≡ b → t.made ≡ s.made + 0
      go true e = let same = changed e in omega arith
      go false e = let same = kept e in omega arith

  -- memory was wanting for what was asked
  seated_wanting : bytes ≡ busy_text m.close m.bare → IsPrefix s.seen t.seen → (asks_for_change asked ≡ true → t.made ≡ s.made)
      → (asks_for_change asked ≡ false → t.made ≡ s.made) → SeatAnswers start s (parsed_in m) bytes t
  seated_wanting is seen changed kept = busy (unmade seen changed kept) is

  module _ (is_found : IsFound m) (asks : AsksBy m asked) where
    seated_read : (reply : Response) → asks_for_change asked ≡ false → Moves 0 s t → reply ≡ reply_of (state_after start t.seen) asked
        → RendersOrBusy reply m.close m.bare bytes → SeatAnswers start s (parsed_in m) bytes t
    seated_read reply is_read moves told (inl is) =
        read (asks_in m asked is_found asks) is_read moves (is ∙ ap (λ (r : Response). reply_text r m.close m.bare) told)
    seated_read reply is_read moves told (inr (is, other)) = busy moves is

    seated_change : (reply : Response) → asks_for_change asked ≡ true → Moves 1 s t → EndsAfter start s.seen t.seen asked reply
        → RendersOrBusy reply m.close m.bare bytes → SeatAnswers start s (parsed_in m) bytes t
    seated_change reply changes moves ends (inl is) = made {asked = asked} {reply = reply} (asks_in m asked is_found asks) (changes, ends, moves) is
    seated_change reply changes moves (before, goes_on, ends, told) (inr (is, other)) =
        elim (change_told (state_after start before) asked changes) [
          | inl accepted ↦ absurd (other (told ∙ accepted))
          | inr (refusal, refused) ↦ untold {asked = asked} {refusal = refusal} (asks_in m asked is_found asks) (changes, (before, goes_on, ends, sym refused), moves) is
        ]

    -- what was asked is told, be it a read or a change
    seated_told : (reply : Response) → IsPrefix s.seen t.seen → (asks_for_change asked ≡ true → t.made ≡ s.made + 1)
        → (asks_for_change asked ≡ true → EndsAfter start s.seen t.seen asked reply)
        → (asks_for_change asked ≡ false → t.made ≡ s.made)
        → (asks_for_change asked ≡ false → reply ≡ reply_of (state_after start t.seen) asked)
        → RendersOrBusy reply m.close m.bare bytes → SeatAnswers start s (parsed_in m) bytes t
    seated_told reply seen counted ends kept told text = go (asks_for_change asked) refl
      where
        go : (b : Bool) → asks_for_change asked ≡ b → SeatAnswers start s (parsed_in m) bytes t
        go true e = seated_change reply e (record { seen = seen; made = counted e }) (ends e) text
        go false e = seated_read reply e (record { seen = seen; made = (let same = kept e in omega arith) }) (told e) text

-- what is asked is told, or no memory was found for it, or nobody asks
pub seated : (start : HallState) (s t : Seat) (m : Message) (bytes : List ℕ) (asked : Ask) → IsFound m → AsksBy m asked
    → asked.token ≡ option_map token_from (token_in m) → (result : Result (Option Response) Undecided) → IsPrefix s.seen t.seen
    → (asks_for_change asked ≡ true → MatchResult result (λ told. t.made ≡ s.made + counted told) (λ _. t.made ≡ s.made))
    → (asks_for_change asked ≡ true → IfOk result (λ told. Decides start s.seen asked told t.seen))
    → (asks_for_change asked ≡ false → t.made ≡ s.made)
    → (asks_for_change asked ≡ false → IfOk result (λ told. told ≡ Some (reply_of (state_after start t.seen) asked)))
    → IfOk result (λ told. IfSome told (λ r. RendersOrBusy r m.close m.bare bytes)) → (result ≡ Ok None → RendersOrBusy no_token m.close m.bare bytes)
    → OnErr result (bytes ≡ busy_text m.close m.bare) → SeatAnswers start s (parsed_in m) bytes t
seated start s t m bytes asked is_found asks token (Ok (Some reply)) seen got decided kept shown text refused busy_is =
    seated_told start s t m bytes asked is_found asks reply seen got decided kept (λ e. let f = shown e in cc) text
seated start s t m bytes asked is_found asks token (Ok None) seen got decided kept shown text refused busy_is = go (asks_for_change asked) refl
  where
    go : (b : Bool) → asks_for_change asked ≡ b → SeatAnswers start s (parsed_in m) bytes t
    go true e =
        seated_stranger start s t m bytes is_found (subst (IsStrange start t.seen) token (decided e).1)
        (record { seen = seen; made = (let same = got e in omega arith) }) (refused refl)
    go false e = absurd (let f = shown e in cc)
seated start s t m bytes asked is_found asks token (Err why) seen got decided kept shown text refused busy_is =
    seated_wanting start s t m bytes asked busy_is seen got kept

-- no memory was found for what is asked
pub seated_unasked : (start : HallState) (s : Seat) (m : Message) (bytes : List ℕ) → bytes ≡ busy_text m.close m.bare → SeatAnswers start s (parsed_in m) bytes s
seated_unasked start s m bytes is = busy (record { seen = ([], append-nil s.seen); made = omega arith }) is
