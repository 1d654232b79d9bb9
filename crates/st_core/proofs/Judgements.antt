-- What a judgement says of what was judged.
use Rattle.std.proofs.Common.{◌≡◌, true, Option, Some, None, ap}
use Rattle.st_text.specs.Texts.{Text}
use Rattle.st_dir.specs.Directory.{Directory, is_user}
use Rattle.st_policy.specs.declared.refusal.Refusal.{Refusal}
use Rattle.st_policy.specs.declared.request.Request.{Request}
use Rattle.st_policy.specs.Requests.{is_change}
use Rattle.st_policy.specs.Policy.{refusal_of}
use Rattle.st_core.specs.declared.asked.Asked.{Asked}
use Rattle.st_core.specs.declared.asked.Call.{Call}
use Rattle.st_core.specs.State.{State}
use Rattle.st_core.specs.Judging.{JudgesChange}
use Rattle.st_core.specs.Step.{Judged, Heard, asker_of, judge, judge_call, settle, step}
use Rattle.st_core.proofs.Allowed.{asker_known}

-- a step settles the judgement
pub step_settles : {A : Type 0} (s : State A) (asked : Asked A) (judged : Judged A) → judged ≡ judge s.directory asked → settle s judged ≡ step s asked
step_settles s asked judged is = ap (settle s) is

heard_in : {A : Type 0} (d : Directory A) (o : Option Text) (call : Call A) (asker : Text) (request : Request A) (refusal : Option Refusal)
    → judge_call d o call ≡ Heard asker request refusal → (o ≡ Some asker) × (call ≡ Call.Good request) × (refusal_of d asker request ≡ refusal)
heard_in d None call asker request refusal e = cc
heard_in d (Some other) (Call.Bad fault) asker request refusal e = cc
heard_in d (Some other) (Call.Good said) asker request refusal e = (cc e, cc e, cc e)

-- what is heard is a good call of a valid token's user, with the policy's answer
pub heard_by : {A : Type 0} (d : Directory A) (asked : Asked A) (asker : Text) (request : Request A) (refusal : Option Refusal)
    → judge d asked ≡ Heard asker request refusal
    → (asker_of d asked.token ≡ Some asker) × (asked.call ≡ Call.Good request) × (refusal_of d asker request ≡ refusal)
heard_by d asked asker request refusal e = heard_in d (asker_of d asked.token) asked.call asker request refusal e

-- a change that is heard is of a user who is there
pub change_heard : {A : Type 0} (d : Directory A) (asker : Text) (request : Request A) (refusal : Option Refusal)
    → JudgesChange d (Heard asker request refusal) → (is_change request ≡ true) × (is_user d asker ≡ true) × (refusal_of d asker request ≡ refusal)
change_heard d asker request refusal (asked, change, is) =
    let h = heard_by d asked asker request refusal is in
    (rw h.1 at change, asker_known d asked.token asker h.0, h.2)
