-- What is not heard, and what a call that nobody makes is told.
use Rattle.std.proofs.Common.{◌≡◌, true, false, Bool, List, Option, None, Some, Result, Ok, Err, OnOk, is_some, refl, sym, ◌∙◌, ap}
use mathlib.Core.List.{IsPrefix}
use Rattle.std.specs.declared.alloc.Global.{Global}
use Rattle.st_text.specs.Texts.{Text}
use Rattle.st_policy.specs.declared.denial.Denial.{Denial}
use Rattle.st_policy.specs.declared.refusal.Refusal.{Refusal}
use Rattle.st_policy.specs.declared.reply.Reply.{Reply}
use Rattle.st_core.specs.declared.asked.Call.{Call}
use Rattle.st_core.specs.declared.asked.Token.{Token}
use Rattle.st_core.specs.declared.judged.Judged.{Judged}
use Rattle.st_dir.specs.Directory.{Directory}
use Rattle.st_core.specs.Step.{asker_of, asks_for_change, calls_for_change, judge, judge_call, settle}
use Rattle.st_hall_press.specs.Steps.{Ask, HallState, Response, reply_of, state_after}

abbrev pub is_heard : {A : Type 0} → Judged A → Bool
is_heard (Judged.Unheard refusal) = false
is_heard (Judged.Heard asker request refusal) = true

-- a change is heard exactly where somebody asks
somebody : (d : Directory Global) (asker : Option Text) (call : Call Global) (judged : Judged Global) → calls_for_change call ≡ true
    → judged ≡ judge_call d asker call → is_heard judged ≡ is_some asker
somebody d None call judged change is = ap is_heard is
somebody d (Some asker) (Call.Bad other) judged change is = cc
somebody d (Some asker) (Call.Good request) judged change is = ap is_heard is

pub heard_change : (d : Directory Global) (asked : Ask) (judged : Judged Global) → asks_for_change asked ≡ true → judged ≡ judge d asked
    → is_heard judged ≡ is_some (asker_of d asked.token)
heard_change d asked judged change is = somebody d (asker_of d asked.token) asked.call judged change is

-- where nobody is found, there is none
pub is_nobody : {A : Type 0} (found : Option A) → false ≡ is_some found → found ≡ None
is_nobody None is = refl
is_nobody (Some x) is = cc

-- what is told to a call that is no JSON object
abbrev pub told_bad : Option Text → Response
told_bad None = Reply.Refused (Refusal.Denied Denial.Token)
told_bad (Some asker) = Reply.Refused Refusal.Json

bad_told : (s : HallState) (asker : Option Text) → (settle s (judge_call s.directory asker (Call.Bad Refusal.Json))).reply ≡ told_bad asker
bad_told s None = refl
bad_told s (Some asker) = refl

reply_to_bad : (s : HallState) (asked : Ask) → asked.call ≡ Call.Bad Refusal.Json → reply_of s asked ≡ told_bad (asker_of s.directory asked.token)
unfolding reply_of
reply_to_bad s asked is =
    ap (λ (c : Call _). (settle s (judge_call s.directory (asker_of s.directory asked.token) c)).reply) is
    ∙ bad_told s (asker_of s.directory asked.token)

-- it is refused for its token exactly where nobody asks
no_asker : (asker : Option Text) → Reply.Refused (Refusal.Denied Denial.Token) ≡ told_bad asker → false ≡ is_some asker
no_asker None is = refl
no_asker (Some asker) is = cc is

pub refused_for_token : (s : HallState) (asked : Ask) → asked.call ≡ Call.Bad Refusal.Json
    → Reply.Refused (Refusal.Denied Denial.Token) ≡ reply_of s asked → false ≡ is_some (asker_of s.directory asked.token)
refused_for_token s asked is told = no_asker (asker_of s.directory asked.token) (told ∙ reply_to_bad s asked is)

-- told anything else, it was heard
an_asker : (asker : Option Text) → (Reply.Refused (Refusal.Denied Denial.Token) ≡ told_bad asker → ⊥) → true ≡ is_some asker
an_asker None other = absurd (other refl)
an_asker (Some asker) other = refl

pub told_otherwise : (s : HallState) (asked : Ask) (told : Response) → asked.call ≡ Call.Bad Refusal.Json → told ≡ reply_of s asked
    → (told ≡ Reply.Refused (Refusal.Denied Denial.Token) → ⊥) → true ≡ is_some (asker_of s.directory asked.token)
told_otherwise s asked told is reply other =
    an_asker (asker_of s.directory asked.token) (λ e. other (reply ∙ (reply_to_bad s asked is ∙ sym e)))

-- a change that is made was heard after a list that goes on what was seen
pub heard_after : {A E : Type 0} (start : HallState) (seen before : List Ask) (token : Option Token) (r : Result A E) → OnOk r (IsPrefix seen before)
    → OnOk r (is_some (asker_of (state_after start before).directory token) ≡ true)
    → OnOk r ((list : List Ask) × IsPrefix seen list × (is_some (asker_of (state_after start list).directory token) ≡ true))
heard_after start seen before token (Ok x) on heard = (before, on, heard)
heard_after start seen before token (Err e) on heard = tt
