-- A rule, and what follows it.
use Rattle.std.proofs.Common.{◌≡◌, ℕ, List, Option, Some, None, Result, Ok, Err}
use Rattle.std.specs.Prelude.{IsUtf8}
use Rattle.serde_json.specs.Data.{Data, Members, object}
use Rattle.serde_json.specs.Read.{read}
use Rattle.st_auth.specs.Names.{first_bad}
use Rattle.st_json.specs.Needs.{Rule, Needs, given, denied, Obeys}
use Rattle.st_json.specs.declared.fault.DecodeFault.{DecodeFault}
use Rattle.st_json.specs.declared.fault.DecodeFault.TheVariants.{Refused, NoMemory}

pub given_then : {B R : Type 0} (rule : Rule B) (next : B → Rule R) (b : B) (r : Result R DecodeFault) → rule (Ok b) → Obeys (next b) r → Obeys (Needs rule next) r
given_then rule next b (Ok x) h rest = given b (Ok x) h rest
given_then rule next b (Err (Refused refusal)) h rest = given b (Err refusal) h rest
given_then rule next b (Err NoMemory) h rest = tt

denied_at : {B R : Type 0} (rule : Rule B) (next : B → Rule R) (e : DecodeFault) → Obeys {B = B} rule (Err e) → Obeys {B = R} (Needs rule next) (Err e)
denied_at rule next (Refused refusal) h = denied refusal h
denied_at rule next NoMemory h = tt

pub denied_then : {B R : Type 0} (rule : Rule B) (next : B → Rule R) (r : Result R DecodeFault) (x e : DecodeFault) → Obeys {B = B} rule (Err e) → r ≡ Err x → x ≡ e → Obeys (Needs rule next) r
denied_then rule next r x e h is same = rw (is, same) (denied_at rule next e h)

-- where memory is wanting, each rule is kept
pub no_memory : {R : Type 0} (rule : Rule R) (r : Result R DecodeFault) (x : DecodeFault) → r ≡ Err x → x ≡ NoMemory → Obeys rule r
no_memory rule r x is wanting = rw (is, wanting) tt

-- what two rules say of a value: the body is this object, and the texts are these authorizations
abbrev pub IsObject : List ℕ → Data → Type 0
IsObject body d = IsUtf8 body × (read body ≡ Some d) × ((ms : Members) × (d ≡ object ms))

abbrev pub AreAuths : List (List ℕ) → List (List ℕ) → Type 0
AreAuths texts auths = (auths ≡ texts) × (first_bad texts ≡ None)
