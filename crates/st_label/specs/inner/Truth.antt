-- A machine, which no reader has to believe: the reader's steps with a truth in place of each tree, and the index of each
-- unit's first byte in place of its bytes. `proofs/` shows that it finds the truth of the tree that the text reads as.
use Rattle.std.specs.Prelude.{◌≡◌, ◌≤◌, ℕ, ◌+◌, ◌==◌, nat_lt, List, [], ◌∷◌, length, slice_range, drop, reverse, Bool, true, false, ◌&&◌}
use Rattle.std.specs.Prelude.{◌||◌, Option, Some, None, Result, Ok, Err, if◌then◌else◌}
use Rattle.st_label.specs.Refusals.{max_depth}
use Rattle.st_label.specs.inner.Terms.{term_name}
use Rattle.st_label.specs.inner.Machine.{Class, Plain, Sign, Quote, Backslash, Open, Close, Other}
use Rattle.st_label.specs.declared.tree.Operator.{Operator}
use Rattle.st_label.specs.declared.truth.Level.{Level}
use Rattle.st_label.specs.declared.truth.Part.{Part}
use Rattle.st_label.specs.declared.truth.Pass.{Pass}
use Rattle.st_label.specs.declared.truth.Stop.{Stop}
use Rattle.st_label.specs.Grammar.{Op, All, Any}

abbrev pub op_code : Op → Operator
op_code All = Operator.All
op_code Any = Operator.Any

-- what two operands come to
abbrev pub joins : Operator → Bool → Bool → Bool
joins Operator.All one other = one && other
joins Operator.Any one other = one || other

-- where the reader is: the levels around, the newest first, the level and the unit
pub record Stage : Type 0 where
  pub outer : List Level
  pub level : Level
  pub unit : Part

abbrev pub stage : List Level → Level → Part → Stage
stage outer level unit = record { outer = outer; level = level; unit = unit }

abbrev pub stage_of : Pass → Stage
stage_of pass = stage (reverse pass.outer.items) pass.level pass.unit

-- the level so far with one more unit and the operator behind it
abbrev pub sign_truth : Operator → Level → Bool → Option Level
sign_truth op Level.Free truth = Some (Level.Joined op truth)
sign_truth Operator.All (Level.Joined Operator.All so_far) truth = Some (Level.Joined Operator.All (so_far && truth))
sign_truth Operator.All (Level.Joined Operator.Any so_far) truth = None
sign_truth Operator.Any (Level.Joined Operator.All so_far) truth = None
sign_truth Operator.Any (Level.Joined Operator.Any so_far) truth = Some (Level.Joined Operator.Any (so_far || truth))

-- the level with its last unit
abbrev pub level_truth : Level → Bool → Bool
level_truth Level.Free truth = truth
level_truth (Level.Joined op so_far) truth = joins op so_far truth

abbrev pub begun : List Level → Option Level → Option Stage
begun outer None = None
begun outer (Some level) = Some (stage outer level Part.Start)

abbrev pub left : List Level → Bool → Option Stage
left [] truth = None
left (level ∷ outer) truth = Some (stage outer level (Part.Done truth))

-- behind a whole unit
abbrev pub pass_done : List Level → Level → Bool → Class → Option Stage
pass_done outer level truth (Sign All) = begun outer (sign_truth Operator.All level truth)
pass_done outer level truth (Sign Any) = begun outer (sign_truth Operator.Any level truth)
pass_done outer level truth Close = left outer (level_truth level truth)
pass_done outer level truth Plain = None
pass_done outer level truth Quote = None
pass_done outer level truth Backslash = None
pass_done outer level truth Open = None
pass_done outer level truth Other = None

abbrev pub pass_start : ℕ → List Level → Level → ℕ → Class → Option Stage
pass_start room outer level at Plain = Some (stage outer level (Part.Word at))
pass_start room outer level at (Sign op) = None
pass_start room outer level at Quote = Some (stage outer level (Part.Quoted (at + 1)))
pass_start room outer level at Backslash = None
pass_start room outer level at Open = if nat_lt (length outer) room then Some (stage (level ∷ outer) Level.Free Part.Start) else None
pass_start room outer level at Close = None
pass_start room outer level at Other = None

abbrev pub pass_word : List Level → Level → ℕ → Bool → Class → Option Stage
pass_word outer level from truth Plain = Some (stage outer level (Part.Word from))
pass_word outer level from truth (Sign All) = pass_done outer level truth (Sign All)
pass_word outer level from truth (Sign Any) = pass_done outer level truth (Sign Any)
pass_word outer level from truth Close = pass_done outer level truth Close
pass_word outer level from truth Quote = None
pass_word outer level from truth Backslash = None
pass_word outer level from truth Open = None
pass_word outer level from truth Other = None

abbrev pub pass_quoted : List Level → Level → ℕ → ℕ → Bool → Class → Option Stage
pass_quoted outer level from at truth Quote = if from == at then None else Some (stage outer level (Part.Done truth))
pass_quoted outer level from at truth Backslash = Some (stage outer level (Part.Escape from))
pass_quoted outer level from at truth Plain = Some (stage outer level (Part.Quoted from))
pass_quoted outer level from at truth (Sign op) = Some (stage outer level (Part.Quoted from))
pass_quoted outer level from at truth Open = Some (stage outer level (Part.Quoted from))
pass_quoted outer level from at truth Close = Some (stage outer level (Part.Quoted from))
pass_quoted outer level from at truth Other = Some (stage outer level (Part.Quoted from))

abbrev pub pass_escape : List Level → Level → ℕ → Class → Option Stage
pass_escape outer level from Quote = Some (stage outer level (Part.Quoted from))
pass_escape outer level from Backslash = Some (stage outer level (Part.Quoted from))
pass_escape outer level from Plain = None
pass_escape outer level from (Sign op) = None
pass_escape outer level from Open = None
pass_escape outer level from Close = None
pass_escape outer level from Other = None

-- the truth of the term that stands from one place up to another
abbrev pub term_truth : (List ℕ → Bool) → Bool → List ℕ → ℕ → ℕ → Bool
term_truth has quoted text from at = has (term_name quoted (slice_range text from at))

-- behind one more byte, where at most so many parentheses may be open
abbrev pub pass_step : ℕ → (List ℕ → Bool) → List ℕ → ℕ → List Level → Level → Part → Class → Option Stage
pass_step room has text at outer level Part.Start c = pass_start room outer level at c
pass_step room has text at outer level (Part.Word from) c = pass_word outer level from (term_truth has false text from at) c
pass_step room has text at outer level (Part.Quoted from) c = pass_quoted outer level from at (term_truth has true text from at) c
pass_step room has text at outer level (Part.Escape from) c = pass_escape outer level from c
pass_step room has text at outer level (Part.Done truth) c = pass_done outer level truth c

-- the truth of a whole text
abbrev pub pass_truth : (List ℕ → Bool) → List ℕ → List Level → Level → Part → Option Bool
pass_truth has text [] level (Part.Word from) = Some (level_truth level (has (drop from text)))
pass_truth has text [] level (Part.Done truth) = Some (level_truth level truth)
pass_truth has text [] Level.Free Part.Start = Some true
pass_truth has text _ _ _ = None

-- A unit begins no later than where the reader is.
abbrev pub IsPlaced : Part → ℕ → Type 0
IsPlaced (Part.Word from) at = from ≤ at
IsPlaced (Part.Quoted from) at = from ≤ at
IsPlaced (Part.Escape from) at = from ≤ at
IsPlaced Part.Start at = Unit {0}
IsPlaced (Part.Done truth) at = Unit {0}

abbrev pub Halts : (ℕ → Option Stage) → Stop → Type 0
Halts steps Stop.NotViable = (room : ℕ) → steps room ≡ None
Halts steps Stop.TooDeep = (steps max_depth ≡ None) × (wide : ℕ) × (next : Stage) × (steps wide ≡ Some next)

-- The steps lead to that stage, or halt as the result says.
abbrev pub PassesTo : (ℕ → Option Stage) → Stage → Result (Unit {0}) Stop → Type 0
PassesTo steps next (Ok done) = steps max_depth ≡ Some next
PassesTo steps next (Err stop) = Halts steps stop
