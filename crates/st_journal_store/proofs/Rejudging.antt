-- A recorded change, as a directory judges it.
use Rattle.std.proofs.Common.{◌≡◌, Bool, true, false, Option, Some, None, Ok, refl, sym, ap, subst, ◌∙◌}
use Rattle.std.specs.Prelude.{IsTrue, if◌then◌else◌, is_some}
use Rattle.std.specs.Option.{option_map_or}
use Rattle.std.specs.Result.{result_err}
use Rattle.st_text.specs.Names.{is_name}
use Rattle.st_text.specs.Texts.{Text, same}
use Rattle.st_text.proofs.Same.{same-refl}
use Rattle.st_dir.specs.Directory.{Directory, is_user, user_named}
use Rattle.st_dir.specs.declared.user.User.{User}
use Rattle.st_policy.specs.declared.refusal.Refusal.{Refusal}
use Rattle.st_policy.specs.declared.request.Request.{Request}
use Rattle.st_policy.specs.Policy.{decision, refusal_of}
use Rattle.st_policy.specs.Requests.{is_change}
use Rattle.st_core.specs.declared.asked.Call.{Call}
use Rattle.st_core.specs.State.{State}
use Rattle.st_core.specs.Judging.{JudgesChange}
use Rattle.st_core.specs.declared.judged.Judged.TheVariants.{Heard}
use Rattle.st_core.specs.Step.{judge_call, settle}
use Rattle.st_journal.specs.declared.record.Record.{Record}
use Rattle.st_journal_record.specs.Records.{ReadsAs}
use Rattle.st_journal_store.specs.Applying.{Applies}

-- the policy's answer, as the code turns it round
pub refusal_is : (o : Option Refusal) → result_err (decision o) ≡ o
refusal_is None = refl
refusal_is (Some refusal) = refl

module _ {A : Type 0} (d : Directory A) (asker : Text) (request : Request A) (refusal : Option Refusal) (policy : refusal_of d asker request ≡ refusal)
    (change : is_change request ≡ true) (known : is_user d asker ≡ true) where
  -- the user's own digest
  holds : (user : User A) → user_named d asker ≡ Some user → option_map_or (λ (u : User A). same u.digest user.digest) (user_named d asker) false ≡ true
  holds user is =
      ap (λ (o : Option (User A)). option_map_or (λ (u : User A). same u.digest user.digest) o false) is ∙ same-refl user.digest

  -- with it the user can ask for the change
  by_user : (o : Option (User A)) → user_named d asker ≡ o → is_some o ≡ true → JudgesChange d (Heard asker request refusal)
  by_user None is there = absurd (cc)
  by_user (Some user) is there = (
    record { token = Some (record { name = asker; digest = user.digest }); call = Call.Good request },
    change,
    ap (λ (b : Bool). judge_call d (if b then Some asker else None) (Call.Good request)) (holds user is)
        ∙ ap (λ (o : Option Refusal). Heard asker request o) policy,
  )

  pub judges : JudgesChange d (Heard asker request refusal)
  judges = by_user (user_named d asker) refl known

  pub applied : (r : Record) → ReadsAs r (Ok request) → r.user ≡ asker → IsTrue (is_name asker) → (s : State A) → s.directory ≡ d
      → Applies s r (settle s (Heard asker request refusal)).state
  applied r reads user named s is = record {
    request = request;
    reads = reads;
    change = change;
    named = subst (λ (u : Text). IsTrue (is_name u)) (sym user) named;
    user = subst (λ (u : Text). is_user s.directory u ≡ true) (sym user) (subst (λ (e : Directory A). is_user e asker ≡ true) (sym is) known);
    after_is = ap (λ (o : Option Refusal). (settle s (Heard asker request o)).state) (sym policy)
        ∙ ap (λ (e : Directory A). (settle s (Heard asker request (refusal_of e asker request))).state) (sym is)
        ∙ ap (λ (u : Text). (settle s (Heard u request (refusal_of s.directory u request))).state) (sym user);
  }
