-- Rules, one after another.
use Rattle.std.specs.Prelude.{◌≡◌, Result, Ok, Err, ⊤}
use Rattle.st_policy.specs.declared.refusal.Refusal.{Refusal}
use Rattle.st_json.specs.declared.fault.DecodeFault.{DecodeFault}
use Rattle.st_json.specs.declared.fault.DecodeFault.TheVariants.{Refused, NoMemory}

-- A rule says which values it gives, and which refusals.
abbrev pub Rule : Type 0 → Type 1
Rule B = Result B Refusal → Type 0

-- a value with P; if there is none, the refusal
abbrev pub Has : {B : Type 0} → Refusal → (B → Type 0) → Result B Refusal → Type 0
Has refusal P (Ok b) = P b
Has {B} refusal P (Err other) = (other ≡ refusal) × ((b : B) → P b → ⊥)

-- If the rule gives a value, the answer goes on from it; if it gives a refusal, that is the answer.
pub data Needs {B R : Type 0} (rule : Rule B) (next : B → Rule R) : Result R Refusal → Type 0 where
  given : (b : B) (answer : Result R Refusal) → rule (Ok b) → next b answer → Needs rule next answer
  denied : (refusal : Refusal) → rule (Err refusal) → Needs rule next (Err refusal)

-- the same, infix: `rule >>= λ b. ..` goes on with the value b of the rule
infixr 10 ◌>>=◌
abbrev pub ◌>>=◌ : {B R : Type 0} → Rule B → (B → Rule R) → Rule R
rule >>= next = Needs rule next

-- the rule that gives this value and refuses nothing
abbrev pub Yields : {R : Type 0} → R → Rule R
Yields value = λ answer. answer ≡ Ok value

-- what the code answers is what the rule says, unless memory ran out
abbrev pub Obeys : {B : Type 0} → Rule B → Result B DecodeFault → Type 0
Obeys P (Ok b) = P (Ok b)
Obeys P (Err (Refused r)) = P (Err r)
Obeys P (Err NoMemory) = ⊤
