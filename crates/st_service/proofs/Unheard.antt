-- Answers to messages whose token does not hold.
use Rattle.std.proofs.Common.{◌≡◌, ℕ, List, Option, None, Result, refl, sym, ap, subst, option_map}
use Rattle.st_http.specs.declared.routes.Endpoint.{Endpoint}
use Rattle.st_http.specs.declared.message.Message.{Message}
use Rattle.st_http.specs.Routes.{found}
use Rattle.st_text.specs.Texts.{Text}
use Rattle.st_policy.specs.declared.denial.Denial.{Denial}
use Rattle.st_policy.specs.declared.refusal.Refusal.{Refusal}
use Rattle.st_policy.specs.declared.reply.Reply.{Reply}
use Rattle.st_policy.specs.declared.request.Request.{Request}
use Rattle.st_core.specs.declared.asked.Asked.{Asked}
use Rattle.st_core.specs.State.{State}
use Rattle.st_core.specs.Step.{asker_of, judge_call, settle, step}
use Rattle.st_json.specs.Bodies.{Decoded}
use Rattle.st_json.proofs.SomeAnswer.{some_answer}
use Rattle.st_service.specs.Answers.{Asks, AsksBy, IsFound, RepliesTo, RendersOrBusy, call_from, token_from, token_in}
use Rattle.st_service.specs.inner.Represented.{one_route}
use Rattle.st_service.proofs.Replying.{replies}

-- what a message asks whose route is this endpoint and this name
asks_there : {A : Type 0} (m : Message) (endpoint other : Endpoint) (name text : List ℕ) → found other text ≡ found endpoint name
    → (decoded : Result (Request A) Refusal) → Decoded endpoint name m.body.now decoded
    → Asks other text (token_in m) m.body.now (record { token = option_map token_from (token_in m); call = call_from decoded })
asks_there m endpoint other name text same decoded is =
    let e : endpoint ≡ other = cc in
    let n : name ≡ text = cc in
    record {
      token_is = refl;
      calls = (decoded, subst (λ t. Decoded other t m.body.now decoded) n (subst (λ l. Decoded l name m.body.now decoded) e is), refl);
    }

module _ {A : Type 0} (s : State A) (m : Message) (is_found : IsFound m)
    (none : asker_of s.directory (option_map token_from (token_in m)) ≡ None) where
  abbrev decoded : (answer : Result (Request A) Refusal) × Decoded is_found.0 is_found.1 m.body.now answer
  decoded = some_answer A is_found.0 is_found.1 m.body.now

  abbrev asked : Asked A
  asked = record { token = option_map token_from (token_in m); call = call_from decoded.0 }

  asks : AsksBy m asked
  asks endpoint name represents =
      asks_there m is_found.0 endpoint is_found.1 name (one_route m.route is_found.0 is_found.1 (found endpoint name) is_found.2 represents) decoded.0 decoded.1

  stays : s ≡ (step s asked).state
  stays = sym (ap (λ (asker : Option Text). (settle s (judge_call s.directory asker asked.call)).state) none)

  told : Reply.Refused (Refusal.Denied Denial.Token) ≡ (step s asked).reply
  told = sym (ap (λ (asker : Option Text). (settle s (judge_call s.directory asker asked.call)).reply) none)

  pub replies_to_stranger : (bytes : List ℕ) → RendersOrBusy {A = A} (Reply.Refused (Refusal.Denied Denial.Token)) m.close m.bare bytes → RepliesTo s m bytes s
  replies_to_stranger bytes text = replies s s m bytes asked is_found asks stays (Reply.Refused (Refusal.Denied Denial.Token)) told text
