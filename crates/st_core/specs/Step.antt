-- One step of the server, and a run of them.
use Rattle.std.specs.Prelude.{◌≡◌, ℕ, List, [], ◌∷◌, ◌++◌, if◌then◌else◌, Option, Some, None, Bool, true, false}
use Rattle.circular_buffer.specs.Buffer.{keep_last}
use Rattle.st_text.specs.Texts.{Text}
use Rattle.st_dir.specs.Directory.{Directory, has_digest}
use Rattle.st_policy.specs.declared.denial.Denial.{Denial}
use Rattle.st_policy.specs.declared.refusal.Refusal.{Refusal}
use Rattle.st_policy.specs.declared.request.Request.{Request}
use Rattle.st_policy.specs.Entries.{entry_of}
use Rattle.st_policy.specs.Requests.{is_change}
use Rattle.st_policy.specs.Refusals.{number_of}
use Rattle.st_policy.specs.Policy.{refusal_of}
use Rattle.st_core.specs.declared.asked.Asked.{Asked}
use Rattle.st_core.specs.declared.asked.Call.{Call}
use Rattle.st_core.specs.declared.asked.Token.{Token}
pub use Rattle.st_core.specs.declared.judged.Judged.{Judged}
pub use Rattle.st_core.specs.declared.judged.Judged.TheVariants.{Unheard, Heard}
use Rattle.st_policy.specs.declared.entry.Entry.{Entry}
use Rattle.st_policy.specs.declared.reply.Reply.{Reply}
use Rattle.st_core.specs.State.{State}
use Rattle.st_core.specs.Reads.{shown}
use Rattle.st_core.specs.Changes.{rows_after, directory_after}

-- ---- the judgement, by the directory alone

-- the user of a token that holds: one of whom the digest is
abbrev pub asker_of : {A : Type 0} → Directory A → Option Token → Option Text
asker_of d None = None
asker_of d (Some token) = if has_digest d token.name token.digest then Some token.name else None

-- A judgement is of what is refused before anything is decided (unheard), or of a user's request, with the policy's refusal, if
-- there is one (heard).
abbrev pub judge_call : {A : Type 0} → Directory A → Option Text → Call A → Judged A
judge_call d None call = Unheard (Refusal.Denied Denial.Token)
judge_call d (Some asker) (Call.Bad refusal) = Unheard refusal
judge_call d (Some asker) (Call.Good request) = Heard asker request (refusal_of d asker request)

-- the token is judged first, then a bad call gives its own refusal, then the policy decides
abbrev pub judge : {A : Type 0} → Directory A → Asked A → Judged A
judge d asked = judge_call d (asker_of d asked.token) asked.call

-- ---- the step

-- what an entry says of the policy's answer: 0, or the number of the refusal
abbrev pub result_of : Option Refusal → ℕ
result_of None = 0
result_of (Some refusal) = number_of refusal

-- a change whose token holds is listed, and the last 1,024 entries are kept
abbrev pub audit_after : {A : Type 0} → Text → Request A → ℕ → List Entry → List Entry
audit_after asker request result entries =
    if is_change request then keep_last 1024 (entries ++ entry_of asker request result ∷ []) else entries

-- the entry of what a user asks: it says what the policy answers
abbrev pub entry_for : {A : Type 0} → State A → Text → Request A → Entry
entry_for s asker request = entry_of asker request (result_of (refusal_of s.directory asker request))

-- a user whose token holds asks for this change
pub record Submits {A : Type 0} (s : State A) (asked : Asked A) (asker : Text) (request : Request A) : Type 0 where
  pub known : asker_of s.directory asked.token ≡ Some asker
  pub decoded : asked.call ≡ Call.Good request
  pub changes : is_change request ≡ true

pub record Outcome (A : Type 0) : Type 0 where
  pub reply : Reply A
  pub state : State A

abbrev pub settle : {A : Type 0} → State A → Judged A → Outcome A
settle s (Unheard refusal) = record { reply = Reply.Refused refusal; state = s }
settle s (Heard asker request (Some refusal)) = record {
  reply = Reply.Refused refusal;
  state = record s { audit = audit_after asker request (number_of refusal) s.audit };
}
settle s (Heard asker request None) = record {
  reply = shown s asker request;
  state = record {
    directory = directory_after asker request s.directory;
    rows = rows_after request s.rows;
    audit = audit_after asker request 0 s.audit;
  };
}

abbrev pub step : {A : Type 0} → State A → Asked A → Outcome A
step s asked = settle s (judge s.directory asked)

-- whether it is a change that could be decoded
abbrev pub calls_for_change : {A : Type 0} → Call A → Bool
calls_for_change (Call.Good request) = is_change request
calls_for_change (Call.Bad refusal) = false

abbrev pub asks_for_change : {A : Type 0} → Asked A → Bool
asks_for_change asked = calls_for_change asked.call

-- ---- the run

abbrev pub replies : {A : Type 0} → State A → List (Asked A) → List (Reply A)
replies s [] = []
replies s (asked ∷ rest) = (step s asked).reply ∷ replies (step s asked).state rest

abbrev pub after : {A : Type 0} → State A → List (Asked A) → State A
after s [] = s
after s (asked ∷ rest) = after (step s asked).state rest
