-- What items ask, and what is kept of it.
use Rattle.std.proofs.Common.{◌≡◌, ℕ, List, [], ◌∷◌, map, filter, Bool, true, false, Option, Some, None, refl, sym, ◌∙◌, ap, subst}
use Rattle.std.specs.Option.{option_map_or}
use Rattle.st_text.specs.Texts.{Text}
use Rattle.st_dir.specs.Directory.{Directory}
use Rattle.st_http.specs.declared.routes.Endpoint.{Endpoint}
use Rattle.st_http.specs.First.{First, message, fault, more, fields_of}
use Rattle.st_http.specs.Routes.{Routed, found, no_route, bad_method, routed}
use Rattle.st_http.specs.Token.{UserAndSecret, token_of}
use Rattle.st_core.specs.declared.asked.Asked.{Asked}
use Rattle.st_core.specs.State.{State}
use Rattle.st_core.specs.Step.{judge, step}
use Rattle.st_core.specs.Worlds.{Sight, names, matters, kept}
use Rattle.st_json.proofs.OneAnswer.{one_answer}
use Rattle.st_service.specs.Answers.{Asks, IsUnrouted, call_from}
use Rattle.st_service.specs.Worlds.{EachAsks, Event, ItemAsks, IsHistory, requests, is_of, item_stays, next_state, kept_events}

-- ---- an item asks one thing

abbrev endpoint_or : Endpoint → Routed → Endpoint
endpoint_or endpoint (found l n) = l
endpoint_or endpoint no_route = endpoint
endpoint_or endpoint (bad_method allow) = endpoint

abbrev name_or : List ℕ → Routed → List ℕ
name_or name (found l n) = n
name_or name no_route = name
name_or name (bad_method allow) = name

not_unrouted : (r : Routed) (endpoint : Endpoint) (name : List ℕ) → r ≡ found endpoint name → IsUnrouted r → ⊥
not_unrouted r endpoint name e is = subst IsUnrouted e is

abbrev first_or : First → List First → First
first_or x [] = x
first_or x (y ∷ ys) = y

abbrev later : List First → List First
later [] = []
later (x ∷ xs) = xs

module _ {A : Type 0} where
  -- what has no endpoint counts as refused
  abbrev asks_what_matters : Sight → Directory A → Option (Asked A) → Bool
  asks_what_matters sight d asked = option_map_or (λ a. matters sight (judge d a)) asked false

  one_asks : (endpoint : Endpoint) (name body : List ℕ) (token : Option UserAndSecret) (a b : Asked A) → Asks endpoint name token body a → Asks endpoint name token body b → a ≡ b
  one_asks endpoint name body token a b of_a of_b =
      let (d, made, call) = of_a.calls in
      let (e, also, other) = of_b.calls in
      let same = one_answer A endpoint name body d e made also in
      let calls = call ∙ ap call_from same ∙ sym other in
      let tokens = of_a.token_is ∙ sym of_b.token_is in
      λ i. record { token = tokens i; call = calls i }

  pub asks_one : (item : First) (a b : Option (Asked A)) → ItemAsks item a → ItemAsks item b → a ≡ b
  asks_one (message h body bare) (Some a) (Some b) p q =
      let route : found p.endpoint p.name ≡ found q.endpoint q.name = sym p.route ∙ q.route in
      let of_endpoint : p.endpoint ≡ q.endpoint = ap (endpoint_or p.endpoint) route in
      let of_name : p.name ≡ q.name = ap (name_or p.name) route in
      let moved = subst (λ l. Asks l q.name (token_of (fields_of h)) body a) of_endpoint (subst (λ n. Asks p.endpoint n (token_of (fields_of h)) body a) of_name p.asks) in
      ap Some (one_asks q.endpoint q.name body (token_of (fields_of h)) a b moved q.asks)
  asks_one (message h body bare) (Some a) None p q = absurd (not_unrouted (routed h.method h.target) p.endpoint p.name p.route q)
  asks_one (message h body bare) None (Some b) p q = absurd (not_unrouted (routed h.method h.target) q.endpoint q.name q.route p)
  asks_one (message h body bare) None None p q = refl
  asks_one (fault reason bare) (Some a) b p q = absurd p
  asks_one (fault reason bare) None (Some b) p q = absurd q
  asks_one (fault reason bare) None None p q = refl
  asks_one (more waits) (Some a) b p q = absurd p
  asks_one (more waits) None b p q = absurd p

  -- the items of events
  abbrev pub items_of : List (Event A) → List First
  items_of events = map (λ event. event.item) events

  pub each_asks : (items : List First) (history : List (Event A)) → IsHistory items history → EachAsks history
  each_asks [] [] h = tt
  each_asks [] (event ∷ events) h = absurd h
  each_asks (item ∷ items) [] h = absurd h
  each_asks (item ∷ items) (event ∷ events) ((is, asks), rest) = (subst (λ x. ItemAsks x event.asked) (sym is) asks, each_asks items events rest)

  pub of_items : (items : List First) (history : List (Event A)) → IsHistory items history → items ≡ items_of history
  of_items [] [] h = refl
  of_items [] (event ∷ events) h = absurd h
  of_items (item ∷ items) [] h = absurd h
  of_items (item ∷ items) (event ∷ events) ((is, asks), rest) = λ i. sym is i ∷ of_items items events rest i

  -- the same items ask the same
  pub same_events : (xs ys : List (Event A)) → EachAsks xs → EachAsks ys → items_of xs ≡ items_of ys → xs ≡ ys
  same_events [] [] p q e = refl
  same_events [] (y ∷ ys) p q e = cc
  same_events (x ∷ xs) [] p q e = cc
  same_events (x ∷ xs) (y ∷ ys) (one, p) (other, q) e =
      let items : x.item ≡ y.item = ap (first_or x.item) e in
      let asked = asks_one y.item x.asked y.asked (subst (λ item. ItemAsks item x.asked) items one) other in
      let rest = same_events xs ys p q (ap later e) in
      λ i. record { item = items i; asked = asked i } ∷ rest i

  pub each_kept : (user : Text) (sight : Sight) (s : State A) (history : List (Event A)) → EachAsks history → EachAsks (kept_events user sight s history)
  each_kept user sight s [] h = tt
  each_kept user sight s (event ∷ rest) (asks, h) = at (item_stays user sight s.directory event) refl (each_kept user sight (next_state s event.asked) rest h)
    where
      at : (b : Bool) → item_stays user sight s.directory event ≡ b → EachAsks (kept_events user sight (next_state s event.asked) rest)
          → EachAsks (kept_events user sight s (event ∷ rest))
      at true e ih = rw e (asks, ih)
      at false e ih = rw e ih

  -- ---- the requests that are kept are those of the items that are kept

  pub whose : (user : Text) (item : First) (asked : Asked A) → ItemAsks item (Some asked) → is_of user item ≡ names asked.token user
  whose user (message h body bare) asked p = ap (λ token. names token user) (sym p.asks.token_is)
  whose user (fault reason bare) asked p = absurd p
  whose user (more waits) asked p = absurd p

  pub requests_kept : (user : Text) (sight : Sight) (s : State A) (history : List (Event A)) → EachAsks history
      → requests (kept_events user sight s history) ≡ kept user sight s (requests history)
  requests_kept user sight s [] h = refl
  requests_kept user sight s (event ∷ rest) (asks, h) = by event.asked refl (λ m. requests_kept user sight m rest h)
    where
      by : (o : Option (Asked A)) → event.asked ≡ o → ((m : State A) → requests (kept_events user sight m rest) ≡ kept user sight m (requests rest))
          → requests (kept_events user sight s (event ∷ rest)) ≡ kept user sight s (requests (event ∷ rest))
      by None e onward = at (is_of user event.item) refl (onward s)
        where
          at : (b : Bool) → is_of user event.item ≡ b → requests (kept_events user sight s rest) ≡ kept user sight s (requests rest)
              → requests (kept_events user sight s (event ∷ rest)) ≡ kept user sight s (requests (event ∷ rest))
          at true f ih = simp (e, f, ih)
          at false f ih = simp (e, f, ih)
      by (Some asked) e onward =
          let own = whose user event.item asked (subst (λ o. ItemAsks event.item o) e asks) in
          at own (names asked.token user) refl (matters sight (judge s.directory asked)) refl (onward (step s asked).state)
        where
          at : is_of user event.item ≡ names asked.token user → (b : Bool) → names asked.token user ≡ b → (c : Bool) → matters sight (judge s.directory asked) ≡ c
              → requests (kept_events user sight (step s asked).state rest) ≡ kept user sight (step s asked).state (requests rest)
              → requests (kept_events user sight s (event ∷ rest)) ≡ kept user sight s (requests (event ∷ rest))
          at own true f c g ih = let mine = own ∙ f in simp (e, mine, f, ih)
          at own false f true g ih = let mine = own ∙ f in simp (e, mine, f, g, ih)
          at own false f false g ih = let mine = own ∙ f in simp (e, mine, f, g, ih)

  -- the user's own items are all kept
  abbrev pub own_events : Text → List (Event A) → List (Event A)
  own_events user history = filter (λ event. is_of user event.item) history

  pub own_kept : (user : Text) (sight : Sight) (s : State A) (history : List (Event A)) → own_events user (kept_events user sight s history) ≡ own_events user history
  own_kept user sight s [] = refl
  own_kept user sight s (event ∷ rest) =
      at (is_of user event.item) refl (asks_what_matters sight s.directory event.asked) refl (own_kept user sight (next_state s event.asked) rest)
    where
      at : (b : Bool) → is_of user event.item ≡ b → (c : Bool) → asks_what_matters sight s.directory event.asked ≡ c
          → own_events user (kept_events user sight (next_state s event.asked) rest) ≡ own_events user rest
          → own_events user (kept_events user sight s (event ∷ rest)) ≡ own_events user (event ∷ rest)
      at true e c f ih = simp (e, ih)
      at false e true f ih = simp (e, f, ih)
      at false e false f ih = simp (e, f, ih)
