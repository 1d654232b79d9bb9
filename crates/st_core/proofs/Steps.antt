-- Steps, by what was found on the way to them.
use Rattle.std.proofs.Common.{rules, ◌≡◌, List, [], ◌∷◌, ◌++◌, true, false, Option, Some, None, Ok, Err, refl, length}
use Rattle.circular_buffer.specs.Buffer.{keep_last}
use Rattle.std.proofs.lemmas.List.Sorted.{length_permutation}
use Rattle.st_text.specs.Texts.{Text, in_order}
use Rattle.st_text.proofs.Sorted.{in_order-IsPermutation}
use Rattle.st_policy.specs.declared.refusal.Refusal.{Refusal}
use Rattle.st_policy.specs.declared.request.Request.{Request}
use Rattle.st_policy.specs.Requests.{is_change}
use Rattle.st_policy.specs.Refusals.{number_of}
use Rattle.st_policy.specs.Entries.{entry_of}
use Rattle.st_policy.specs.Policy.{refusal_of, decision}
use Rattle.st_core.specs.declared.asked.Asked.{Asked}
use Rattle.st_core.specs.declared.asked.Call.{Call}
use Rattle.st_policy.specs.declared.reply.Reply.{Reply}
use Rattle.st_core.specs.State.{State}
use Rattle.st_core.specs.Reads.{shown}
use Rattle.st_core.specs.Changes.{rows_after, directory_after}
use Rattle.st_core.specs.Step.{Heard, asker_of, asks_for_change, calls_for_change, result_of, judge_call, settle, step}

pub is_refused : (o : Option Refusal) (refusal : Refusal) → decision o ≡ Err refusal → o ≡ Some refusal
is_refused None refusal e = cc
is_refused (Some other) refusal e = cc

pub is_allowed : (o : Option Refusal) → decision o ≡ Ok tt → o ≡ None
is_allowed None e = refl
is_allowed (Some other) e = cc

-- a change that is allowed is told to be made
pub shown_change : {A : Type 0} (s : State A) (asker : Text) (request : Request A) → is_change request ≡ true → shown s asker request ≡ Reply.Accepted
shown_change s asker Request.Whoami e = cc
shown_change s asker _ e = first_of (search rules, cc)

module _ {A : Type 0} (s : State A) (asker : Text) (request : Request A) (change : is_change request ≡ true) where
  pub settled_refused : (refusal : Refusal) → settle s (Heard asker request (Some refusal)) ≡ record {
    reply = Reply.Refused refusal;
    state = record s { audit = keep_last 1024 (s.audit ++ entry_of asker request (number_of refusal) ∷ []) };
  }
  settled_refused refusal = rw change refl

  pub settled_allowed : settle s (Heard asker request None) ≡ record {
    reply = Reply.Accepted;
    state = record {
      directory = directory_after asker request s.directory;
      rows = rows_after request s.rows;
      audit = keep_last 1024 (s.audit ++ entry_of asker request 0 ∷ []);
    };
  }
  settled_allowed = rw (change, shown_change s asker request change) refl

-- what is no change leaves the state as it was
settled_read : {A : Type 0} (s : State A) (asker : Text) (request : Request A) (o : Option Refusal) → is_change request ≡ false → (settle s (Heard asker request o)).state ≡ s
settled_read s asker Request.Whoami None e = refl
settled_read s asker Request.Whoami (Some refusal) e = refl
settled_read s asker Request.Tables None e = refl
settled_read s asker Request.Tables (Some refusal) e = refl
settled_read s asker Request.Users None e = refl
settled_read s asker Request.Users (Some refusal) e = refl
settled_read s asker (Request.User user) None e = refl
settled_read s asker (Request.User user) (Some refusal) e = refl
settled_read s asker (Request.Grants table) None e = refl
settled_read s asker (Request.Grants table) (Some refusal) e = refl
settled_read s asker (Request.NamespaceGrants namespace) None e = refl
settled_read s asker (Request.NamespaceGrants namespace) (Some refusal) e = refl
settled_read s asker (Request.Label label) None e = refl
settled_read s asker (Request.Label label) (Some refusal) e = refl
settled_read s asker Request.Audit None e = refl
settled_read s asker Request.Audit (Some refusal) e = refl
settled_read s asker (Request.Get table id auths) None e = refl
settled_read s asker (Request.Get table id auths) (Some refusal) e = refl
settled_read s asker (Request.Scan table query auths limit after) None e = refl
settled_read s asker (Request.Scan table query auths limit after) (Some refusal) e = refl
settled_read s asker (Request.Count table query auths) None e = refl
settled_read s asker (Request.Count table query auths) (Some refusal) e = refl
settled_read s asker (Request.Grid table query auths columns lines) None e = refl
settled_read s asker (Request.Grid table query auths columns lines) (Some refusal) e = refl
settled_read s asker (Request.Plan table query budget) None e = refl
settled_read s asker (Request.Plan table query budget) (Some refusal) e = refl
settled_read s asker (Request.Put table row) o e = cc
settled_read s asker (Request.Delete table id label) o e = cc
settled_read s asker (Request.CreateTable table period) o e = cc
settled_read s asker (Request.DropTable table) o e = cc
settled_read s asker (Request.Constraint table on) o e = cc
settled_read s asker (Request.Period table period) o e = cc
settled_read s asker (Request.CreateUser user digest auths) o e = cc
settled_read s asker (Request.DropUser user) o e = cc
settled_read s asker (Request.Token user digest) o e = cc
settled_read s asker (Request.Auths user auths) o e = cc
settled_read s asker (Request.GrantSystem user permission) o e = cc
settled_read s asker (Request.RevokeSystem user permission) o e = cc
settled_read s asker (Request.GrantTable table user permission) o e = cc
settled_read s asker (Request.RevokeTable table user permission) o e = cc
settled_read s asker (Request.GrantNamespace namespace user permission) o e = cc
settled_read s asker (Request.RevokeNamespace namespace user permission) o e = cc

judged_read : {A : Type 0} (s : State A) (o : Option Text) (call : Call A) → calls_for_change call ≡ false → (settle s (judge_call s.directory o call)).state ≡ s
judged_read s None call e = refl
judged_read s (Some asker) (Call.Bad refusal) e = refl
judged_read s (Some asker) (Call.Good request) e = settled_read s asker request (refusal_of s.directory asker request) e

pub read_leaves : {A : Type 0} (s : State A) (asked : Asked A) → asks_for_change asked ≡ false → (step s asked).state ≡ s
read_leaves s asked e = judged_read s (asker_of s.directory asked.token) asked.call e

settled_change : {A : Type 0} (s : State A) (asker : Text) (request : Request A) (o : Option Refusal) → is_change request ≡ true
    → (settle s (Heard asker request o)).state.audit ≡ keep_last 1024 (s.audit ++ entry_of asker request (result_of o) ∷ [])
settled_change s asker request None e = rw e refl
settled_change s asker request (Some refusal) e = rw e refl

-- a change whose token holds is listed
pub change_listed : {A : Type 0} (s : State A) (asked : Asked A) (asker : Text) (request : Request A)
    → asker_of s.directory asked.token ≡ Some asker → asked.call ≡ Call.Good request → is_change request ≡ true
    → (step s asked).state.audit ≡ keep_last 1024 (s.audit ++ entry_of asker request (result_of (refusal_of s.directory asker request)) ∷ [])
change_listed s asked asker request heard good e = rw (heard, good) (settled_change s asker request (refusal_of s.directory asker request) e)

pub stranger_leaves : {A : Type 0} (s : State A) (asked : Asked A) → asker_of s.directory asked.token ≡ None → (step s asked).state ≡ s
stranger_leaves s asked heard = rw heard refl

pub length-in_order : {X : Type 0} (key : X → List Text) (xs : List X) → length (in_order key xs) ≡ length xs
length-in_order key xs = length_permutation xs (in_order key xs) (in_order-IsPermutation key xs)
