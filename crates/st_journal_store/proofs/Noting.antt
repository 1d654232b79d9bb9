-- A change that is heard, and its record.
use Rattle.std.proofs.Common.{◌≡◌, ℕ, List, true, Option, Some, Result, Ok, Err, refl, sym, ap, subst, ◌∙◌}
use Rattle.std.specs.Prelude.{IsTrue, IsUtf8}
use Rattle.st_text.specs.Names.{is_name}
use Rattle.st_text.specs.Texts.{Text}
use Rattle.st_dir.specs.Directory.{Directory, is_user}
use Rattle.st_http.specs.declared.routes.Endpoint.{Endpoint}
use Rattle.st_http.specs.declared.message.Message.{Message}
use Rattle.st_http.specs.Routes.{RepresentsRoute, found}
use Rattle.st_policy.specs.declared.refusal.Refusal.{Refusal}
use Rattle.st_policy.specs.declared.request.Request.{Request}
use Rattle.st_core.specs.declared.asked.Asked.{Asked}
use Rattle.st_core.specs.declared.asked.Call.{Call}
use Rattle.st_core.specs.State.{State}
use Rattle.st_core.specs.declared.judged.Judged.{Judged}
use Rattle.st_core.specs.declared.judged.Judged.TheVariants.{Heard, Unheard}
use Rattle.st_core.specs.Step.{asks_for_change, calls_for_change, judge, judge_call, settle, step}
use Rattle.st_core.proofs.Allowed.{asker_known}
use Rattle.st_core.proofs.Judgements.{heard_by}
use Rattle.st_json.specs.Bodies.{Decoded, has_body}
use Rattle.st_journal.specs.declared.record.Record.{Record}
use Rattle.st_journal_record.specs.Records.{IsRecordOf}
use Rattle.st_journal_record.proofs.ReadBack.{same, text}
use Rattle.st_service.specs.Answers.{AsksBy, IsFound, call_from}
use Rattle.st_service.specs.inner.Calls.{Calls}
use Rattle.st_journal_store.specs.Applying.{Applies}

module _ {A : Type 0} where
  decoded_is : (decoded : Result (Request A) Refusal) (request : Request A) → call_from decoded ≡ Call.Good request → decoded ≡ Ok request
  decoded_is (Ok other) request e = let s : other ≡ request = cc in ap (λ (r : Request A). Ok r) s
  decoded_is (Err refusal) request e = absurd (cc)

  -- the body of a good call
  reads : (e : Endpoint) (name body : List ℕ) (call : Call A) (request : Request A) → Calls e name body call → call ≡ Call.Good request
      → Decoded e name body (Ok request)
  reads e name body call request (decoded, is, from) good =
      subst (λ (d : Result (Request A) Refusal). Decoded e name body d) (decoded_is decoded request (sym from ∙ good)) is

  -- what asks for a change could be decoded
  decodes : (call : Call A) → calls_for_change call ≡ true → (request : Request A) × (call ≡ Call.Good request)
  decodes (Call.Good request) change = (request, refl)
  decodes (Call.Bad refusal) change = absurd (cc)

  -- the body of a change is a text where it is read
  pub is_text : (m : Message) (asked : Asked A) → AsksBy m asked → asks_for_change asked ≡ true
      → (e : Endpoint) (name : List ℕ) → RepresentsRoute m.route (found e name) → has_body e ≡ true → IsUtf8 m.body.now
  is_text m asked asks change e name represents has =
      let said = decodes asked.call change in
      text e name m.body.now said.0 (reads e name m.body.now asked.call said.0 (asks e name represents).calls said.1) has

  module _ (s : State A) (m : Message) (asked : Asked A) (asks : AsksBy m asked) (asker : Text) (request : Request A) (refusal : Option Refusal)
      (heard : judge s.directory asked ≡ Heard asker request refusal) where
    pub applied : (r : Record) → IsTrue (is_name asker) → IsFound m → asks_for_change asked ≡ true
        → ((e : Endpoint) (name : List ℕ) → RepresentsRoute m.route (found e name) → IsRecordOf r asker e name m.body.now)
        → Applies s r (step s asked).state
    applied r named (e, name, represents) change is =
        let h = heard_by s.directory asked asker request refusal heard in
        let good : asked.call ≡ Call.Good request = h.1 in
        let kept = is e name represents in
        let user : r.user ≡ asker = kept.user_is in
        let decoded = reads e name m.body.now asked.call request (asks e name represents).calls good in
        record {
          request = request;
          reads = same r asker name m.body.now e (Ok request) kept decoded;
          change = ap calls_for_change (sym good) ∙ change;
          named = subst (λ (u : Text). IsTrue (is_name u)) (sym user) named;
          user = subst (λ (u : Text). is_user s.directory u ≡ true) (sym user) (asker_known s.directory asked.token asker h.0);
          after_is = ap (λ (o : Option Text). (settle s (judge_call s.directory o asked.call)).state) (h.0 ∙ ap (λ (u : Text). Some u) (sym user))
              ∙ ap (λ (c : Call A). (settle s (judge_call s.directory (Some r.user) c)).state) good;
        }

  module _ (d : Directory A) (asked : Asked A) (refusal : Refusal) (unheard : judge d asked ≡ Unheard refusal) where
    in_state : (s : State A) → s.directory ≡ d → judge s.directory asked ≡ Unheard refusal
    in_state s is = subst (λ (e : Directory A). judge e asked ≡ Unheard refusal) (sym is) unheard

    -- what is not heard changes nothing
    pub leaves : (s : State A) → s.directory ≡ d → (step s asked).state ≡ s
    leaves s is = ap (λ (j : Judged A). (settle s j).state) (in_state s is)
