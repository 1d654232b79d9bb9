-- Runs without a 503, and the histories of their items.
use Rattle.std.proofs.Common.{◌≡◌, ℕ, Bool, List, [], ◌∷◌, ◌++◌, Option, Some, None, option_map, refl, sym, ◌∙◌, ap, subst}
use Rattle.std.specs.List.{All}
use Rattle.std.proofs.lemmas.List.Elements.{All-head, All-tail}
use Rattle.httparse.specs.Grammar.{RequestHead}
use Rattle.st_http.specs.First.{First, message, fault, more, expects}
use Rattle.st_core.specs.declared.asked.Asked.{Asked}
use Rattle.st_core.specs.State.{State}
use Rattle.st_core.specs.Step.{step, after}
use Rattle.st_service.specs.Answers.{Answers, IsBusy, StateAnswers, told, busy, untold, unrouted, close_of, parsed}
use Rattle.st_service.specs.Worlds.{Event, ItemAsks, IsHistory, requests, next_state, item_text}
use Rattle.st_service.specs.Worlds as worlds
use Rattle.st_service.proofs.Histories.{asks_one}
use Rattle.st_connection.specs.Connection.{Run, WithInterim}
use Rattle.st_connection.specs.Render.{interim}

abbrev NotBusy : List (List ℕ) → Type 0
NotBusy texts = All (λ answer. IsBusy answer → ⊥) texts

module _ {A : Type 0} where
  -- what is answered to an item, by what it asks
  record Answered (s mid : State A) (item : First) (answer : List ℕ) (asked : Option (Asked A)) : Type 0 where
    pub asks : ItemAsks item asked
    pub text : answer ≡ item_text item (option_map (λ a. (step s a).reply) asked)
    pub state : mid ≡ next_state s asked

  record AnsweredSo (s mid : State A) (item : First) (answer : List ℕ) : Type 0 where
    pub asked : Option (Asked A)
    pub answered : Answered s mid item answer asked

  -- where it is not a 503, behind whatever was said before it
  said_so : (s mid : State A) (h : RequestHead) (body : List ℕ) (bare : Bool) (answer text : List ℕ) → StateAnswers s (parsed h body bare) answer mid
      → text ≡ interim (expects (message h body bare)) ++ answer → (IsBusy text → ⊥) → AnsweredSo s mid (message h body bare) text
  said_so s mid h body bare answer text (told {asked = asked} asks after said) is some = record {
    asked = Some asked;
    answered = record { asks = asks; text = is ∙ ap (λ t. interim (expects (message h body bare)) ++ t) said; state = after };
  }
  said_so s mid h body bare answer text (busy same said) is some =
      absurd (some (expects (message h body bare), close_of h, bare, is ∙ ap (λ t. interim (expects (message h body bare)) ++ t) said))
  said_so s mid h body bare answer text (untold asks after refused said) is some =
      absurd (some (expects (message h body bare), close_of h, bare, is ∙ ap (λ t. interim (expects (message h body bare)) ++ t) said))
  said_so s mid h body bare answer text (unrouted none same said) is some = record {
    asked = None;
    answered = record { asks = none; text = is ∙ ap (λ t. interim (expects (message h body bare)) ++ t) said; state = same };
  }

  raw_so : (s mid : State A) (item : First) (answer text : List ℕ) → Answers s item answer mid → text ≡ interim (expects item) ++ answer → (IsBusy text → ⊥)
      → AnsweredSo s mid item text
  raw_so s mid (message h body bare) answer text one is some = said_so s mid h body bare answer text one is some
  raw_so s mid (fault reason bare) answer text (said, same) is some = record { asked = None; answered = record { asks = tt; text = is ∙ said; state = same } }
  raw_so s mid (more waits) answer text one is some = absurd one

  answered_so : (s mid : State A) (item : First) (text : List ℕ) → WithInterim Answers s item text mid → (IsBusy text → ⊥) → AnsweredSo s mid item text
  answered_so s mid item text (answer, is, one) some = raw_so s mid item answer text one is some

  -- the items of such a run are a history
  pub record Heard (s t : State A) (items : List First) (texts : List (List ℕ)) : Type 0 where
    pub history : List (Event A)
    pub is_history : IsHistory items history

  pub heard : (s t : State A) (items : List First) (texts : List (List ℕ)) → Run (WithInterim Answers) s items texts t → NotBusy texts → Heard s t items texts
  heard s t [] [] run some = record { history = []; is_history = tt }
  heard s t [] (text ∷ texts) run some = absurd run
  heard s t (item ∷ items) [] run some = absurd run
  heard s t (item ∷ items) (text ∷ texts) (mid, one, rest) some =
      let first = answered_so s mid item text one (All-head (λ a. IsBusy a → ⊥) text texts some) in
      let more = heard mid t items texts rest (All-tail (λ a. IsBusy a → ⊥) text texts some) in
      record {
        history = record { item = item; asked = first.asked } ∷ more.history;
        is_history = ((refl, first.answered.asks), more.is_history);
      }

  -- and its answers and its state are those of the definitions
  pub record Defined (s t : State A) (texts : List (List ℕ)) (history : List (Event A)) : Type 0 where
    pub texts_are : texts ≡ worlds.answers s history
    pub ends : t ≡ after s (requests history)

  pub defined : (s t : State A) (items : List First) (texts : List (List ℕ)) (history : List (Event A)) → Run (WithInterim Answers) s items texts t → NotBusy texts
      → IsHistory items history → Defined s t texts history
  defined s t [] [] [] run some h = record { texts_are = refl; ends = run }
  defined s t [] [] (event ∷ events) run some h = absurd h
  defined s t [] (text ∷ texts) history run some h = absurd run
  defined s t (item ∷ items) [] history run some h = absurd run
  defined s t (item ∷ items) (text ∷ texts) [] run some h = absurd h
  defined s t (item ∷ items) (text ∷ texts) (event ∷ events) (mid, one, rest) some ((is, asks), h) =
      let first = answered_so s mid item text one (All-head (λ a. IsBusy a → ⊥) text texts some) in
      let same = asks_one item first.asked event.asked first.answered.asks asks in
      let here : text ≡ item_text event.item (option_map (λ a. (step s a).reply) event.asked) =
      first.answered.text ∙ ap (λ o. item_text item (option_map (λ a. (step s a).reply) o)) same ∙ ap (λ x. item_text x (option_map (λ a. (step s a).reply) event.asked)) (sym is) in
      let there : mid ≡ next_state s event.asked = first.answered.state ∙ ap (next_state s) same in
      let more = defined mid t items texts events rest (All-tail (λ a. IsBusy a → ⊥) text texts some) h in
      record {
        texts_are = λ i. here i ∷ (more.texts_are ∙ ap (λ m. worlds.answers m events) there) i;
        ends = more.ends ∙ ap (λ m. after m (requests events)) there ∙ last event.asked refl;
      }
    where
      last : (o : Option (Asked A)) → event.asked ≡ o → after (next_state s event.asked) (requests events) ≡ after s (requests (event ∷ events))
      last None e = simp e
      last (Some asked) e = simp e

  -- a run and another after it are one
  pub joined : (s m t : State A) (items others : List First) (texts later : List (List ℕ)) → Run (WithInterim Answers) s items texts m → Run (WithInterim Answers) m others later t
      → Run (WithInterim Answers) s (items ++ others) (texts ++ later) t
  joined s m t [] others [] later run rest = subst (λ x. Run (WithInterim Answers) x others later t) run rest
  joined s m t [] others (text ∷ texts) later run rest = absurd run
  joined s m t (item ∷ items) others [] later run rest = absurd run
  joined s m t (item ∷ items) others (text ∷ texts) later (mid, one, run) rest = (mid, one, joined mid m t items others texts later run rest)
