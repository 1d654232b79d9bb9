-- A record is read back to its request.
use Rattle.std.proofs.Common.{◌≡◌, ℕ, List, [], ◌∷◌, Bool, true, false, Some, None, Result, Ok, Err, if◌then◌else◌, refl, sym, ap, subst, ◌∙◌}
use Rattle.std.specs.Prelude.{IsUtf8, find}
use Rattle.std.specs.Str.{bytes_eq}
use Rattle.std.proofs.lemmas.Slice.Eq.{bytes_eq-Decides}
use Rattle.serde_json.specs.Data.{Data}
use Rattle.st_http.specs.declared.routes.Endpoint.{Endpoint}
use Rattle.st_http.specs.declared.routes.Endpoint.TheVariants as endpoints
use Rattle.st_policy.specs.declared.refusal.Refusal.{Refusal}
use Rattle.st_policy.specs.declared.request.Request.{Request}
use Rattle.st_json.specs.declared.fault.DecodeFault.{DecodeFault}
use Rattle.st_json.specs.declared.fault.DecodeFault.TheVariants.{Refused}
use Rattle.st_json.specs.Needs.{Rule, Needs, Obeys, given, denied}
use Rattle.st_json.specs.Bodies.{Answer, Made, ReadBody, Decoded, has_body}
use Rattle.st_json.proofs.OneAnswer.{one_answer}
use Rattle.st_journal.specs.declared.record.Record.{Record}
use Rattle.st_journal_record.specs.Names.{request_of}
use Rattle.st_journal_record.specs.inner.Finding.{all_endpoints, endpoint_named}
use Rattle.st_journal_record.specs.Records.{kept_body, IsRecordOf, ReadsAs}

pub named : (e : Endpoint) → endpoint_named (request_of e) ≡ Some e
unfolding all_endpoints
named endpoints.Whoami = refl
named endpoints.Tables = refl
named endpoints.Users = refl
named endpoints.User = refl
named endpoints.Grants = refl
named endpoints.NamespaceGrants = refl
named endpoints.Label = refl
named endpoints.Audit = refl
named endpoints.Get = refl
named endpoints.Scan = refl
named endpoints.Count = refl
named endpoints.Grid = refl
named endpoints.Plan = refl
named endpoints.Put = refl
named endpoints.Delete = refl
named endpoints.CreateTable = refl
named endpoints.DropTable = refl
named endpoints.Constraint = refl
named endpoints.Period = refl
named endpoints.CreateUser = refl
named endpoints.DropUser = refl
named endpoints.Token = refl
named endpoints.Auths = refl
named endpoints.GrantSystem = refl
named endpoints.RevokeSystem = refl
named endpoints.GrantTable = refl
named endpoints.RevokeTable = refl
named endpoints.GrantNamespace = refl
named endpoints.RevokeNamespace = refl

found_holds : {X : Type 0} (p : X → Bool) (xs : List X) (x : X) → find p xs ≡ Some x → p x ≡ true
found_holds p [] x found = cc
found_holds p (y ∷ ys) x found = at (p y) refl (found_holds p ys x)
  where
    at : (b : Bool) → p y ≡ b → (find p ys ≡ Some x → p x ≡ true) → p x ≡ true
    at true e ih = let h = rw e at found in let same : y ≡ x = cc in rw (sym same) e
    at false e ih = ih (rw e at found)

pub called : (request : List ℕ) (e : Endpoint) → endpoint_named request ≡ Some e → request ≡ request_of e
called request e found =
    sym ((bytes_eq-Decides (request_of e) request).0 (found_holds (λ (x : Endpoint). bytes_eq (request_of x) request) all_endpoints e found))

module _ {A : Type 0} where
  -- a body that is not read may as well be empty
  keep : (reads : Bool) (body : List ℕ) (next : Data → Rule (Request A)) (answer : Answer A) → Needs (ReadBody reads body) next answer
      → Needs (ReadBody reads (if reads then body else [])) next answer
  keep true body next answer needs = needs
  keep false body next answer needs = needs

  pub same : (r : Record) (user name body : List ℕ) (e : Endpoint) (answer : Answer A) → IsRecordOf r user e name body → Decoded e name body answer → ReadsAs r answer
  same r user name body e answer is decoded =
      let kept : Decoded e name (kept_body e body) answer = keep (has_body e) body (Made e name) answer decoded in (
        e,
        is.request_is,
        subst (λ n. Decoded e n r.body answer) (sym is.name_is) (subst (λ b. Decoded e name b answer) (sym is.body_is) kept),
      )

  pub one : (r : Record) (a b : Answer A) → ReadsAs r a → ReadsAs r b → a ≡ b
  one r a b (e, is, first) (f, also, second) =
      let both : Some e ≡ Some f = sym (named e) ∙ (ap endpoint_named (sym is ∙ also) ∙ named f) in
      let endpoint : f ≡ e = cc in
      one_answer A e r.name r.body a b first (subst (λ x. Decoded x r.name r.body b) endpoint second)

  refused : (r : Record) (e : Endpoint) (refusal : Refusal) (request : Request A) → endpoint_named r.request ≡ Some e
      → Decoded {A = A} e r.name r.body (Err refusal) → ReadsAs r (Ok request) → ⊥
  refused r e refusal request is decoded reads =
      let same : Err refusal ≡ Ok request = one r (Err refusal) (Ok request) (e, called r.request e is, decoded) reads in
      absurd (cc)

  -- nor does one whose request is no endpoint's
  pub names_none : (r : Record) (request : Request A) → endpoint_named r.request ≡ None → ReadsAs r (Ok request) → ⊥
  names_none r request none (e, is, decoded) =
      let both : None ≡ Some e = sym none ∙ (ap endpoint_named is ∙ named e) in
      absurd (cc)

  -- a record whose request is refused makes none
  pub refuses : (r : Record) (e : Endpoint) (name body : List ℕ) (refusal : Refusal) (result : Result (Request A) DecodeFault) (request : Request A)
      → endpoint_named r.request ≡ Some e → name ≡ r.name → body ≡ r.body → result ≡ Err (Refused refusal) → Obeys (Decoded {A = A} e name body) result
      → ReadsAs r (Ok request) → ⊥
  refuses r e name body refusal result request is same_name same_body same decoded reads =
      let here : Decoded {A = A} e name body (Err refusal)
      = subst (λ (x : Result (Request A) DecodeFault). Obeys (Decoded {A = A} e name body) x) same decoded in
      let kept : Decoded {A = A} e r.name r.body (Err refusal)
      = subst (λ (n : List ℕ). Decoded {A = A} e n r.body (Err refusal)) same_name (subst (λ (b : List ℕ). Decoded {A = A} e name b (Err refusal)) same_body here) in
      refused r e refusal request is kept reads

  text_of : (reads : Bool) (body : List ℕ) (next : Data → Rule (Request A)) (request : Request A) (answer : Answer A) → answer ≡ Ok request → Needs (ReadBody reads body) next answer
      → reads ≡ true → IsUtf8 body
  text_of true body next request _ is (given d x read rest) on = read.0
  text_of true body next request _ is (denied refusal read) on = absurd (cc)
  text_of false body next request answer is needs on = absurd (cc)

  pub text : (e : Endpoint) (name body : List ℕ) (request : Request A) → Decoded e name body (Ok request) → has_body e ≡ true → IsUtf8 body
  text e name body request decoded is = text_of (has_body e) body (Made e name) request (Ok request) refl decoded is
