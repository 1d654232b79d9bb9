-- What a user is answered, by the user's own items and the replies to them.
use Rattle.std.proofs.Common.{◌≡◌, ℕ, List, [], ◌∷◌, map, filter, Bool, true, false, Option, Some, None, refl, sym, ◌∙◌, ap, subst}
use Rattle.std.specs.Prelude.{filter_map, is_some}
use Rattle.st_text.specs.Texts.{Text}
use Rattle.st_http.specs.First.{First}
use Rattle.st_core.specs.declared.asked.Asked.{Asked}
use Rattle.st_policy.specs.declared.reply.Reply.{Reply}
use Rattle.st_core.specs.State.{State}
use Rattle.st_core.specs.Step.{step}
use Rattle.st_core.specs.Worlds.{ever, NeverSystem, names, keep, replies_to}
use Rattle.st_core.proofs.Kept.{told_the_same}
use Rattle.st_service.specs.Worlds.{EachAsks, Event, ItemAsks, IsHistory, requests, is_of, kept_events, Trace, trace_of, keep_history, keep_items, answers, answers_to}
use Rattle.st_service.proofs.Histories.{each_asks, each_kept, same_events, whose, requests_kept, own_events, own_kept}

-- the text of an answer by what its item leaves
abbrev own_text : {A : Type 0} → Option (Option (Reply A) → List ℕ) → Option (Reply A) → List ℕ
own_text None reply = []
own_text (Some text) reply = text reply

module _ {A : Type 0} where
  -- an own item, and the rest of the answers by the replies that are left
  abbrev told_one : Option (Option (Reply A) → List ℕ) → Option (Asked A) → (List (Reply A) → List (List ℕ)) → List (Reply A) → List (List ℕ)
  told_one own None rest replies = own_text own None ∷ rest replies
  told_one own (Some asked) rest [] = []
  told_one own (Some asked) rest (reply ∷ replies) = own_text own (Some reply) ∷ rest replies

  abbrev told : List (Trace A) → List (Reply A) → List (List ℕ)
  told [] = λ replies. []
  told (trace ∷ traces) = told_one trace.own trace.asked (told traces)

  abbrev own_traces : Text → List (Event A) → List (Trace A)
  own_traces user events = map (trace_of user) (own_events user events)

  -- a user's answers are those to the user's items by the replies to the user's requests
  own_told : (user : Text) (s : State A) (items : List First) (history : List (Event A)) → IsHistory items history
      → answers_to user items (answers s history) ≡ told (own_traces user history) (replies_to user s (requests history))
  own_told user s [] [] h = refl
  own_told user s [] (event ∷ events) h = absurd h
  own_told user s (item ∷ items) [] h = absurd h
  own_told user s (item ∷ items) (event ∷ events) ((is, asks), rest) = by event.asked refl (λ m. own_told user m items events rest)
    where
      Goal : Type 0
      Goal = answers_to user (item ∷ items) (answers s (event ∷ events))
          ≡ told (own_traces user (event ∷ events)) (replies_to user s (requests (event ∷ events)))

      by : (o : Option (Asked A)) → event.asked ≡ o
          → ((m : State A) → answers_to user items (answers m events) ≡ told (own_traces user events) (replies_to user m (requests events))) → Goal
      by None e onward = at (is_of user event.item) refl (onward s)
        where
          at : (b : Bool) → is_of user event.item ≡ b
              → answers_to user items (answers s events) ≡ told (own_traces user events) (replies_to user s (requests events)) → Goal
          at true f ih = let mine = ap (is_of user) (sym is) ∙ f in simp (e, f, mine, ih)
          at false f ih = let mine = ap (is_of user) (sym is) ∙ f in simp (e, f, mine, ih)
      by (Some asked) e onward =
          let own = whose user item asked (subst (λ o. ItemAsks item o) e asks) in
          at own (names asked.token user) refl (onward (step s asked).state)
        where
          at : is_of user item ≡ names asked.token user → (b : Bool) → names asked.token user ≡ b
              → answers_to user items (answers (step s asked).state events)
              ≡ told (own_traces user events) (replies_to user (step s asked).state (requests events)) → Goal
          at own true g ih = let f = own ∙ g in let mine = ap (is_of user) is ∙ f in simp (e, f, mine, g, ih)
          at own false g ih = let f = own ∙ g in let mine = ap (is_of user) is ∙ f in simp (e, f, mine, g, ih)

  -- ---- the traces say the requests that are kept, and the user's own events

  abbrev asked_of : List (Trace A) → List (Asked A)
  asked_of traces = filter_map (λ trace. trace.asked) traces

  requests_traced : (user : Text) (events : List (Event A)) → requests events ≡ asked_of (map (trace_of user) events)
  requests_traced user [] = refl
  requests_traced user (event ∷ rest) = at event.asked refl (requests_traced user rest)
    where
      at : (o : Option (Asked A)) → event.asked ≡ o → requests rest ≡ asked_of (map (trace_of user) rest) → requests (event ∷ rest) ≡ asked_of (map (trace_of user) (event ∷ rest))
      at None e ih = simp (e, ih)
      at (Some asked) e ih = simp (e, ih)

  abbrev own_of : List (Trace A) → List (Trace A)
  own_of traces = filter (λ trace. is_some trace.own) traces

  own_traced : (user : Text) (events : List (Event A)) → own_traces user events ≡ own_of (map (trace_of user) events)
  own_traced user [] = refl
  own_traced user (event ∷ rest) = at (is_of user event.item) refl (own_traced user rest)
    where
      at : (b : Bool) → is_of user event.item ≡ b → own_traces user rest ≡ own_of (map (trace_of user) rest)
          → own_traces user (event ∷ rest) ≡ own_of (map (trace_of user) (event ∷ rest))
      at true e ih = simp (e, ih)
      at false e ih = simp (e, ih)

  -- histories of which the same items are kept
  pub same_kept : (s : State A) (user : Text) (history other : List (Event A)) → EachAsks history → EachAsks other
      → keep_items user s history ≡ keep_items user s other → keep_history user s history ≡ keep_history user s other
  same_kept s user history other asks also same =
      let sight = ever user s (requests history) in
      let sight_too = ever user s (requests other) in
      ap (map (trace_of user)) (same_events (kept_events user sight s history) (kept_events user sight_too s other)
      (each_kept user sight s history asks) (each_kept user sight_too s other also) same)

  -- histories of which the same is kept
  pub equal : (s : State A) (user : Text) (items others : List First) (history other : List (Event A)) → IsHistory items history → IsHistory others other
      → NeverSystem user s (requests history) → NeverSystem user s (requests other) → keep_history user s history ≡ keep_history user s other
      → answers_to user items (answers s history) ≡ answers_to user others (answers s other)
  equal s user items others history other is also never never_too same =
      let sight = ever user s (requests history) in
      let sight_too = ever user s (requests other) in
      let events = kept_events user sight s history in
      let events_too = kept_events user sight_too s other in
      let kept_same : keep user s (requests history) ≡ keep user s (requests other) =
      sym (requests_kept user sight s history (each_asks items history is)) ∙ requests_traced user events ∙ ap asked_of same
      ∙ sym (requests_traced user events_too) ∙ requests_kept user sight_too s other (each_asks others other also) in
      let replies_same : replies_to user s (requests history) ≡ replies_to user s (requests other) =
      told_the_same s user (requests history) never ∙ ap (replies_to user s) kept_same ∙ sym (told_the_same s user (requests other) never_too) in
      let own_same : own_traces user history ≡ own_traces user other =
      sym (ap (map (trace_of user)) (own_kept user sight s history)) ∙ own_traced user events ∙ ap own_of same
      ∙ sym (own_traced user events_too) ∙ ap (map (trace_of user)) (own_kept user sight_too s other) in
      own_told user s items history is ∙ (λ i. told (own_same i) (replies_same i)) ∙ sym (own_told user s others other also)
