-- What the items of a text ask, what of them a user may notice, and what the user is answered. The items may come from one connection
-- or from several, one after another.
use Rattle.std.specs.Prelude.{◌≡◌, ℕ, Bool, false, ◌||◌, List, [], ◌∷◌, ◌++◌, map, filter_map, if◌then◌else◌, Option, Some, None}
use Rattle.std.specs.Prelude.{option_map, ⊤}
use Rattle.std.specs.List.{AllZip, items_where_true}
use Rattle.std.specs.Option.{option_map_or}
use Rattle.st_text.specs.Texts.{Text}
use Rattle.st_dir.specs.Directory.{Directory}
use Rattle.st_http.specs.First.{First, message, fault, more, expects, fields_of}
use Rattle.st_http.specs.Routes.{routed}
use Rattle.st_http.specs.Token.{token_of}
use Rattle.st_core.specs.declared.asked.Asked.{Asked}
use Rattle.st_policy.specs.declared.reply.Reply.{Reply}
use Rattle.st_core.specs.State.{State}
use Rattle.st_core.specs.Step.{judge, step}
use Rattle.st_core.specs.Worlds.{NeverSystem, Sight, ever, names, matters}
use Rattle.st_connection.specs.Render.{fault_text, interim}
use Rattle.st_service.specs.Answers.{AnswersAll, AsksIn, IsUnrouted, NoneBusy, token_from, close_of, parsed, reply_text, unrouted_text}

-- ---- what the items ask

-- an item, and what it asks: nothing where no endpoint has its path and its method, or where it is a fault
pub record Event (A : Type 0) : Type 0 where
  pub item : First
  pub asked : Option (Asked A)

-- The item asks what its message does. No item asks two things.
abbrev pub ItemAsks : {A : Type 0} → First → Option (Asked A) → Type 0
ItemAsks (message h body bare) (Some asked) = AsksIn (parsed h body bare) asked
ItemAsks (message h body bare) None = IsUnrouted (routed h.method h.target)
ItemAsks (fault reason bare) None = ⊤
ItemAsks _ _ = ⊥

-- these are the items, in order, each with what it asks
abbrev pub IsHistory : {A : Type 0} → List First → List (Event A) → Type 0
IsHistory items history = AllZip (λ item event. (event.item ≡ item) × ItemAsks item event.asked) items history

-- each of them asks what its item does
abbrev pub EachAsks : {A : Type 0} → List (Event A) → Type 0
EachAsks [] = ⊤
EachAsks (event ∷ events) = ItemAsks event.item event.asked × EachAsks events

-- the requests of a history, in order
abbrev pub requests : {A : Type 0} → List (Event A) → List (Asked A)
requests history = filter_map (λ event. event.asked) history

-- ---- the items that a user's answers may rest on

-- An item is the user's where its token names the user, whether or not the secret is right, and whether or not it has an endpoint. A fault
-- has no token, and is nobody's.
abbrev pub is_of : Text → First → Bool
is_of user (message h body bare) = names (option_map token_from (token_of (fields_of h))) user
is_of user _ = false

-- An item stays if it is the user's, or if what it asks matters; what has no endpoint asks nothing, and a fault neither.
abbrev pub item_stays : {A : Type 0} → Text → Sight → Directory A → Event A → Bool
item_stays user sight d event = is_of user event.item || option_map_or (λ asked. matters sight (judge d asked)) event.asked false

-- the state after an item that asks this
abbrev pub next_state : {A : Type 0} → State A → Option (Asked A) → State A
next_state s asked = option_map_or (λ a. (step s a).state) asked s

-- The items that stay for this sight, in order, each judged in the whole run.
abbrev pub kept_events : {A : Type 0} → Text → Sight → State A → List (Event A) → List (Event A)
kept_events user sight s [] = []
kept_events user sight s (event ∷ rest) =
    let others = kept_events user sight (next_state s event.asked) rest in
    if item_stays user sight s.directory event then event ∷ others else others

-- ---- what they leave to notice

-- the answer to an item that gets this reply, or none, behind the interim response that the item expects
abbrev pub item_text : {A : Type 0} → First → Option (Reply A) → List ℕ
item_text (message h body bare) (Some reply) = interim (expects (message h body bare)) ++ reply_text reply (close_of h) bare
item_text (message h body bare) None = interim (expects (message h body bare)) ++ unrouted_text (routed h.method h.target) (close_of h) bare
item_text (fault reason bare) reply = fault_text reason bare
item_text (more waits) reply = []

-- What an item leaves to notice: what it asks, and of the user's own how each reply to it is written, or none. How the item is written
-- otherwise does not matter.
pub record Trace (A : Type 0) : Type 0 where
  pub own : Option (Option (Reply A) → List ℕ)
  pub asked : Option (Asked A)

abbrev pub trace_of : {A : Type 0} → Text → Event A → Trace A
trace_of user event = record { own = if is_of user event.item then Some (item_text event.item) else None; asked = event.asked }

-- what the items leave that stay for what the user may ever see
abbrev pub keep_history : {A : Type 0} → Text → State A → List (Event A) → List (Trace A)
keep_history user s history = map (trace_of user) (kept_events user (ever user s (requests history)) s history)

-- the items that stay, as they were sent
abbrev pub keep_items : {A : Type 0} → Text → State A → List (Event A) → List First
keep_items user s history = map (λ event. event.item) (kept_events user (ever user s (requests history)) s history)

-- ---- the answers

-- the answers to the items of a history, in order: what asks takes its step, and what does not leaves the state
abbrev pub answers : {A : Type 0} → State A → List (Event A) → List (List ℕ)
answers s [] = []
answers s (event ∷ rest) =
    item_text event.item (option_map (λ asked. (step s asked).reply) event.asked) ∷ answers (next_state s event.asked) rest

-- of the answers to items, those to the user's own
abbrev pub answers_to : Text → List First → List (List ℕ) → List (List ℕ)
answers_to user items texts = items_where_true (map (is_of user) items) texts

-- ---- what is compared

-- items from a state on and their history, at no moment of which the user holds SYSTEM
pub record Unprivileged {A : Type 0} (user : Text) (s : State A) : Type 0 where
  pub items : List First
  pub history : List (Event A)
  pub is_history : IsHistory items history
  pub never : NeverSystem user s (requests history)

-- what is kept of them
abbrev pub kept_of : {A : Type 0} {user : Text} {s : State A} → Unprivileged user s → List (Trace A)
kept_of {user} {s} asked = keep_history user s asked.history

-- such items, and answers to them without a 503
pub record Exchange {A : Type 0} (user : Text) (s : State A) : Type 0 where
  pub asked : Unprivileged user s
  pub texts : List (List ℕ)
  pub end : State A
  pub run : AnswersAll s asked.items texts end
  pub none_busy : NoneBusy texts
