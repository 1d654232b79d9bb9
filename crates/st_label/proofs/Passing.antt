-- The code's steps are those of the definition.
use Rattle.std.proofs.Common.{◌≡◌, ◌≢◌, ℕ, suc, ◌≤◌, ◌==◌, List, ◌∷◌, length, Bool, true, false, Some, None, Result, refl, arith}
use Rattle.std.proofs.lemmas.Bool.{lt-ltb, le-ltb}
use Rattle.st_label.specs.Refusals.{max_depth}
use Rattle.st_label.specs.Grammar.{All, Any}
use Rattle.st_label.specs.inner.Machine.{Class, Plain, Sign, Quote, Backslash, Open, Close, Other}
use Rattle.st_label.specs.inner.Truth.{Stage, stage, pass_start, pass_done, pass_word, pass_step, term_truth, PassesTo}
use Rattle.st_label.specs.declared.truth.Level.{Level}
use Rattle.st_label.specs.declared.truth.Part.{Part}
use Rattle.st_label.specs.declared.truth.Stop.{Stop}

-- Where sixteen parentheses are open, one more takes more room.
pub deep : (outer : List Level) (level : Level) (at : ℕ) (c : Class) → c ≡ Open → max_depth ≤ length outer →
    (pass_start max_depth outer level at c ≡ None) × (wide : ℕ) × (next : Stage) × (pass_start wide outer level at c ≡ Some next)
deep outer level at c h full =
    (rw (h, le-ltb (length outer) max_depth full) refl, suc (length outer), stage (level ∷ outer) Level.Free Part.Start, rw (h, lt-ltb (length outer) (suc (length outer)) (omega arith)) refl)

pub done_passes : (has : List ℕ → Bool) (text : List ℕ) (at : ℕ) (outer : List Level) (level : Level) (unit : Part) (t : Bool) (c d : Class)
    (next : Stage) (r : Result (Unit {0}) Stop) → c ≡ d → unit ≡ Part.Done t →
    PassesTo (λ room. pass_done outer level t c) next r → PassesTo (λ room. pass_step room has text at outer level unit d) next r
done_passes has text at outer level unit t c d next r e h k = rw (h, ← e) k

-- Behind a word all but a plain byte is as behind a unit.
word_done : (outer : List Level) (level : Level) (from : ℕ) (t : Bool) (c : Class) → c ≢ Plain → pass_word outer level from t c ≡ pass_done outer level t c
word_done outer level from t Plain h = absurd (h refl)
word_done outer level from t (Sign All) h = refl
word_done outer level from t (Sign Any) h = refl
word_done outer level from t Quote h = refl
word_done outer level from t Backslash h = refl
word_done outer level from t Open h = refl
word_done outer level from t Close h = refl
word_done outer level from t Other h = refl

pub word_passes : (has : List ℕ → Bool) (text : List ℕ) (at : ℕ) (outer : List Level) (level : Level) (unit : Part) (from : ℕ) (t : Bool)
    (c d : Class) (next : Stage) (r : Result (Unit {0}) Stop) → c ≡ d → unit ≡ Part.Word from →
    t ≡ term_truth has false text from at → c ≢ Plain → PassesTo (λ room. pass_done outer level t c) next r → PassesTo (λ room. pass_step room has text at outer level unit d) next r
word_passes has text at outer level unit from t c d next r e h s p k = rw (h, ← e, word_done outer level from (term_truth has false text from at) c p, ← s) k

pub quote_passes : (has : List ℕ → Bool) (text : List ℕ) (at : ℕ) (outer : List Level) (level : Level) (unit : Part) (from : ℕ) (t : Bool) (d : Class) → d ≡ Quote → unit ≡ Part.Quoted from →
    t ≡ term_truth has true text from at → (from == at) ≡ false → pass_step max_depth has text at outer level unit d ≡ Some (stage outer level (Part.Done t))
quote_passes has text at outer level unit from t d e h s other = rw (e, h, other, ← s) refl
