-- The pass over a text stands where the reader does, with the truth of each tree.
use Rattle.std.proofs.Common.{◌≡◌, ◌+◌, ◌-◌, ◌≤◌, ◌<◌, ◌==◌, ℕ, nat_lt, List, [], ◌∷◌, ◌++◌, length, map, take, drop, Bool, true, false, ◌&&◌, ◌||◌}
use Rattle.std.proofs.Common.{Option, Some, None, refl, sym, ap, ◌∙◌, arith, append_assoc, slice_range, option_map, if◌then◌else◌}
use Rattle.std.proofs.lemmas.Bool.Decides.{nat_tests}
use Rattle.std.proofs.lemmas.List.{length-map, length-append, length-drop, drop-append-le, drop_at, drop_all}
use Rattle.std.proofs.Math.Seq.{take-append_seam}
use Rattle.st_label.specs.Tree.{Tree, Term, operands, holds, all_hold, one_holds}
use Rattle.st_label.specs.Grammar.{Op, All, Any, escaped, escaped_byte}
use Rattle.st_label.specs.inner.Terms.{unescaped_from}
use Rattle.st_label.specs.inner.Machine.{Class, Plain, Sign, Quote, Backslash, Open, Close, Other, class_of, Frame, Free, Joined, Mode, Start, Word}
use Rattle.st_label.specs.inner.Machine.{Quoted, Escape, Done, State, state, with_sign, closed, started, popped, unquoted, step_done, step_start}
use Rattle.st_label.specs.inner.Machine.{step_word, step_quoted, step_escape, step_mode, step, whole, tree_of}
use Rattle.st_label.specs.inner.Truth.{Stage, stage, op_code, sign_truth, level_truth, begun, left, pass_done, pass_start, pass_word, pass_quoted, pass_escape, pass_step, pass_truth, IsPlaced}
use Rattle.st_label.specs.declared.truth.Level.{Level}
use Rattle.st_label.specs.declared.truth.Part.{Part}
use Rattle.st_label.specs.declared.tree.Operator.{Operator}
use Rattle.st_label.proofs.Sound.{Means, class_means, unescaped, escaped_last}
use Rattle.st_label.proofs.Terms.{back}

-- ---- what a level and a unit come to

abbrev pub all_truth : (List ℕ → Bool) → Op → List Tree → Bool
all_truth has All rs = all_hold has (operands rs)
all_truth has Any rs = one_holds has (operands rs)

abbrev pub level_of : (List ℕ → Bool) → Frame → Level
level_of has Free = Level.Free
level_of has (Joined op rs) = Level.Joined (op_code op) (all_truth has op rs)

-- The unit stands for the reader's, behind these bytes.
abbrev pub UnitIs : (List ℕ → Bool) → List ℕ → Part → Mode → Type 0
UnitIs has front Part.Start Start = Unit {0}
UnitIs has front (Part.Word from) (Word w) = (from ≤ length front) × (drop from front ≡ w)
UnitIs has front (Part.Quoted from) (Quoted n) = (from ≤ length front) × (drop from front ≡ escaped n)
UnitIs has front (Part.Escape from) (Escape n) = (from ≤ length front) × (drop from front ≡ escaped n ++ 92 ∷ [])
UnitIs has front (Part.Done t) (Done r) = t ≡ holds has r
UnitIs has front _ _ = ⊥

pub record Stands (has : List ℕ → Bool) (front : List ℕ) (outer : List Level) (level : Level) (unit : Part) (s : State) : Type 0 where
  pub around : outer ≡ map (level_of has) s.stack
  pub here : level ≡ level_of has s.frame
  pub part : UnitIs has front unit s.mode

-- Both go on, or neither.
abbrev pub Both : (List ℕ → Bool) → List ℕ → Option Stage → Option State → Type 0
Both has front None None = Unit {0}
Both has front None (Some s) = ⊥
Both has front (Some g) None = ⊥
Both has front (Some g) (Some s) = Stands has front g.outer g.level g.unit s

stand : (has : List ℕ → Bool) (front : List ℕ) (st : List Frame) (f : Frame) (level : Level) (unit : Part) (m : Mode) → level ≡ level_of has f
    → UnitIs has front unit m → Stands has front (map (level_of has) st) level unit (state st f m)
stand has front st f level unit m e h = record { around = refl; here = e; part = h }

-- ---- truths

and_true : (b : Bool) → (b && true) ≡ b
and_true true = refl
and_true false = refl

or_false : (b : Bool) → (b || false) ≡ b
or_false true = refl
or_false false = refl

and_assoc : (a b c : Bool) → ((a && b) && c) ≡ (a && (b && c))
and_assoc true b c = refl
and_assoc false b c = refl

or_assoc : (a b c : Bool) → ((a || b) || c) ≡ (a || (b || c))
or_assoc true b c = refl
or_assoc false b c = refl

all_more : (has : List ℕ → Bool) (rs : List Tree) (r : Tree) → (all_hold has (operands rs) && holds has r) ≡ all_hold has (operands (rs ++ r ∷ []))
all_more has [] r = sym (and_true (holds has r))
all_more has (x ∷ xs) r = and_assoc (holds has x) (all_hold has (operands xs)) (holds has r) ∙ ap (λ (k : Bool). holds has x && k) (all_more has xs r)

one_more : (has : List ℕ → Bool) (rs : List Tree) (r : Tree) → (one_holds has (operands rs) || holds has r) ≡ one_holds has (operands (rs ++ r ∷ []))
one_more has [] r = sym (or_false (holds has r))
one_more has (x ∷ xs) r = or_assoc (holds has x) (one_holds has (operands xs)) (holds has r) ∙ ap (λ (k : Bool). holds has x || k) (one_more has xs r)

closed_truth : (has : List ℕ → Bool) (f : Frame) (r : Tree) → level_truth (level_of has f) (holds has r) ≡ holds has (closed f r)
closed_truth has Free r = refl
closed_truth has (Joined All rs) r = all_more has rs r
closed_truth has (Joined Any rs) r = one_more has rs r

-- ---- a step behind a whole unit

signed : (has : List ℕ → Bool) (front : List ℕ) (st : List Frame) (op : Op) (f : Frame) (r : Tree) →
    Both has front (begun (map (level_of has) st) (sign_truth (op_code op) (level_of has f) (holds has r))) (started st (with_sign op f r))
signed has front st All Free r = stand has front st (Joined All (r ∷ [])) _ Part.Start Start (ap (Level.Joined Operator.All) (sym (and_true (holds has r)))) tt
signed has front st Any Free r = stand has front st (Joined Any (r ∷ [])) _ Part.Start Start (ap (Level.Joined Operator.Any) (sym (or_false (holds has r)))) tt
signed has front st All (Joined All rs) r = stand has front st (Joined All (rs ++ r ∷ [])) _ Part.Start Start (ap (Level.Joined Operator.All) (all_more has rs r)) tt
signed has front st All (Joined Any rs) r = tt
signed has front st Any (Joined All rs) r = tt
signed has front st Any (Joined Any rs) r = stand has front st (Joined Any (rs ++ r ∷ [])) _ Part.Start Start (ap (Level.Joined Operator.Any) (one_more has rs r)) tt

left_level : (has : List ℕ → Bool) (front : List ℕ) (st : List Frame) (t : Bool) (r : Tree) → t ≡ holds has r → Both has front (left (map (level_of has) st) t) (popped st r)
left_level has front [] t r e = tt
left_level has front (f ∷ st) t r e = stand has front st f _ (Part.Done t) (Done r) refl e

done_both : (has : List ℕ → Bool) (front : List ℕ) (st : List Frame) (f : Frame) (t : Bool) (r : Tree) (c : Class) → t ≡ holds has r
    → Both has front (pass_done (map (level_of has) st) (level_of has f) t c) (step_done st f r c)
done_both has front st f t r (Sign All) e = rw e (signed has front st All f r)
done_both has front st f t r (Sign Any) e = rw e (signed has front st Any f r)
done_both has front st f t r Close e = left_level has front st (level_truth (level_of has f) t) (closed f r) (ap (level_truth (level_of has f)) e ∙ closed_truth has f r)
done_both has front st f t r Plain e = tt
done_both has front st f t r Quote e = tt
done_both has front st f t r Backslash e = tt
done_both has front st f t r Open e = tt
done_both has front st f t r Other e = tt

-- ---- a step at the beginning of a unit

opened : (has : List ℕ → Bool) (front : List ℕ) (room : ℕ) (st : List Frame) (f : Frame) (v : Bool) →
    Both has front (if v then Some (stage (level_of has f ∷ map (level_of has) st) Level.Free Part.Start) else None) (if v then Some (state (f ∷ st) Free Start) else None)
opened has front room st f true = stand has front (f ∷ st) Free _ Part.Start Start refl tt
opened has front room st f false = tt

start_both : (has : List ℕ → Bool) (front : List ℕ) (b room : ℕ) (st : List Frame) (f : Frame) (c : Class) →
    Both has (front ++ b ∷ []) (pass_start room (map (level_of has) st) (level_of has f) (length front) c) (step_start room st f (b ∷ []) c)
start_both has front b room st f Plain =
    stand has (front ++ b ∷ []) st f _ (Part.Word (length front)) (Word (b ∷ [])) refl (omega (arith, length-append front (b ∷ [])), drop_at front (b ∷ []) (length front) refl)
start_both has front b room st f (Sign op) = tt
start_both has front b room st f Quote =
    let long = length-append front (b ∷ []) in
    stand has (front ++ b ∷ []) st f _ (Part.Quoted (length front + 1)) (Quoted []) refl (omega (arith, long), drop_all (length front + 1) (front ++ b ∷ []) (omega (arith, long)))
start_both has front b room st f Backslash = tt
start_both has front b room st f Open = rw (length-map st (level_of has)) (opened has (front ++ b ∷ []) room st f (nat_lt (length st) room))
start_both has front b room st f Close = tt
start_both has front b room st f Other = tt

-- ---- a step inside a term

-- the bytes of a term so far
so_far : (text front rest : List ℕ) (from : ℕ) → text ≡ front ++ rest → from ≤ length front → slice_range text from (length front) ≡ drop from front
so_far text front rest from e h =
    ap (λ (k : List ℕ). slice_range k from (length front)) e
    ∙ ap (take (length front - from)) (drop-append-le from front rest h)
    ∙ ap (λ (n : ℕ). take n (drop from front ++ rest)) (sym (length-drop from front))
    ∙ take-append_seam (drop from front) rest

grows : (front : List ℕ) (from b : ℕ) (w : List ℕ) → from ≤ length front → drop from front ≡ w → (from ≤ length (front ++ b ∷ [])) × (drop from (front ++ b ∷ []) ≡ w ++ b ∷ [])
grows front from b w h e = (omega (arith, length-append front (b ∷ []), h), drop-append-le from front (b ∷ []) h ∙ ap (λ (k : List ℕ). k ++ b ∷ []) e)

word_both : (has : List ℕ → Bool) (front : List ℕ) (b : ℕ) (st : List Frame) (f : Frame) (from : ℕ) (t : Bool) (w : List ℕ) (c : Class) → from ≤ length front → drop from front ≡ w → t ≡ has w →
    Both has (front ++ b ∷ []) (pass_word (map (level_of has) st) (level_of has f) from t c) (step_word st f w (b ∷ []) c)
word_both has front b st f from t w Plain h e k = stand has (front ++ b ∷ []) st f _ (Part.Word from) (Word (w ++ b ∷ [])) refl (grows front from b w h e)
word_both has front b st f from t w (Sign All) h e k = done_both has (front ++ b ∷ []) st f t (Term w) (Sign All) k
word_both has front b st f from t w (Sign Any) h e k = done_both has (front ++ b ∷ []) st f t (Term w) (Sign Any) k
word_both has front b st f from t w Close h e k = done_both has (front ++ b ∷ []) st f t (Term w) Close k
word_both has front b st f from t w Quote h e k = tt
word_both has front b st f from t w Backslash h e k = tt
word_both has front b st f from t w Open h e k = tt
word_both has front b st f from t w Other h e k = tt

name_both : (has : List ℕ → Bool) (front : List ℕ) (b : ℕ) (st : List Frame) (f : Frame) (from : ℕ) (n : List ℕ) → from ≤ length front → drop from front ≡ escaped n → escaped_byte b ≡ b ∷ [] →
    Stands has (front ++ b ∷ []) (map (level_of has) st) (level_of has f) (Part.Quoted from) (state st f (Quoted (n ++ b ∷ [])))
name_both has front b st f from n h e k =
    stand has (front ++ b ∷ []) st f _ (Part.Quoted from) (Quoted (n ++ b ∷ [])) refl
    (rw (escaped_last n b, k) (grows front from b (escaped n) h e))

same_place : (a b : ℕ) → a ≡ b → (a == b) ≡ true
same_place a b h = grind (arith, nat_tests)

other_place : (a b : ℕ) → a < b → (a == b) ≡ false
other_place a b h = grind (arith, nat_tests)

some_byte : (b : ℕ) → 1 ≤ length (escaped_byte b)
some_byte b = at ((b == 34) || (b == 92)) refl
  where
    at : (v : Bool) → ((b == 34) || (b == 92)) ≡ v → 1 ≤ length (escaped_byte b)
    at true e = rw e (omega arith)
    at false e = rw e (omega arith)

end_both : (has : List ℕ → Bool) (front next : List ℕ) (st : List Frame) (f : Frame) (from : ℕ) (t : Bool) (n : List ℕ) → from ≤ length front → drop from front ≡ escaped n → t ≡ has n →
    Both has next (if from == length front then None else Some (stage (map (level_of has) st) (level_of has f) (Part.Done t))) (unquoted st f n)
end_both has front next st f from t [] h e k =
    let none : length (drop from front) ≡ 0 = ap length e in
    rw (same_place from (length front) (omega (arith, none, length-drop from front, h))) tt
end_both has front next st f from t (x ∷ xs) h e k =
    let some : length (drop from front) ≡ length (escaped_byte x ++ escaped xs) = ap length e in
    rw (other_place from (length front) (omega (arith, some, length-drop from front, length-append (escaped_byte x) (escaped xs), some_byte x)))
    (stand has next st f _ (Part.Done t) (Done (Term (x ∷ xs))) refl k)

quoted_both : (has : List ℕ → Bool) (front : List ℕ) (b : ℕ) (st : List Frame) (f : Frame) (from : ℕ) (t : Bool) (n : List ℕ) (c : Class) → Means c b
    → from ≤ length front → drop from front ≡ escaped n → t ≡ has n →
    Both has (front ++ b ∷ []) (pass_quoted (map (level_of has) st) (level_of has f) from (length front) t c) (step_quoted st f n (b ∷ []) c)
quoted_both has front b st f from t n Plain m h e k = name_both has front b st f from n h e (unescaped Plain b m (λ i. cc) (λ i. cc))
quoted_both has front b st f from t n (Sign op) m h e k = name_both has front b st f from n h e (unescaped (Sign op) b m (λ i. cc) (λ i. cc))
quoted_both has front b st f from t n Quote m h e k = end_both has front (front ++ b ∷ []) st f from t n h e k
quoted_both has front b st f from t n Backslash m h e k =
    stand has (front ++ b ∷ []) st f _ (Part.Escape from) (Escape n) refl (rw m (grows front from 92 (escaped n) h e))
quoted_both has front b st f from t n Open m h e k = name_both has front b st f from n h e (unescaped Open b m (λ i. cc) (λ i. cc))
quoted_both has front b st f from t n Close m h e k = name_both has front b st f from n h e (unescaped Close b m (λ i. cc) (λ i. cc))
quoted_both has front b st f from t n Other m h e k = name_both has front b st f from n h e (unescaped Other b m (λ i. cc) (λ i. cc))

escape_grows : (has : List ℕ → Bool) (front : List ℕ) (b : ℕ) (st : List Frame) (f : Frame) (from : ℕ) (n : List ℕ) → escaped_byte b ≡ 92 ∷ b ∷ []
    → from ≤ length front → drop from front ≡ escaped n ++ 92 ∷ [] →
    Stands has (front ++ b ∷ []) (map (level_of has) st) (level_of has f) (Part.Quoted from) (state st f (Quoted (n ++ b ∷ [])))
escape_grows has front b st f from n k h e =
    let more = grows front from b (escaped n ++ 92 ∷ []) h e in
    stand has (front ++ b ∷ []) st f _ (Part.Quoted from) (Quoted (n ++ b ∷ [])) refl
    (more.0, more.1 ∙ append_assoc (escaped n) (92 ∷ []) (b ∷ []) ∙ ap (λ (x : List ℕ). escaped n ++ x) (sym k) ∙ sym (escaped_last n b))

escape_both : (has : List ℕ → Bool) (front : List ℕ) (b : ℕ) (st : List Frame) (f : Frame) (from : ℕ) (n : List ℕ) (c : Class) → Means c b
    → from ≤ length front → drop from front ≡ escaped n ++ 92 ∷ [] →
    Both has (front ++ b ∷ []) (pass_escape (map (level_of has) st) (level_of has f) from c) (step_escape st f n (b ∷ []) c)
escape_both has front b st f from n Plain m h e = tt
escape_both has front b st f from n (Sign op) m h e = tt
escape_both has front b st f from n Quote m h e = escape_grows has front b st f from n (rw m refl) h e
escape_both has front b st f from n Backslash m h e = escape_grows has front b st f from n (rw m refl) h e
escape_both has front b st f from n Open m h e = tt
escape_both has front b st f from n Close m h e = tt
escape_both has front b st f from n Other m h e = tt

-- ---- a step

mode_both : (has : List ℕ → Bool) (text front rest : List ℕ) (b room : ℕ) (st : List Frame) (f : Frame) (u : Part) (m : Mode) → text ≡ front ++ rest → UnitIs has front u m →
    Both has (front ++ b ∷ []) (pass_step room has text (length front) (map (level_of has) st) (level_of has f) u (class_of b)) (step_mode room st f (b ∷ []) (class_of b) m)
mode_both has text front rest b room st f Part.Start Start e h = start_both has front b room st f (class_of b)
mode_both has text front rest b room st f (Part.Word from) (Word w) e h =
    word_both has front b st f from _ w (class_of b) h.0 h.1 (ap has (so_far text front rest from e h.0 ∙ h.1))
mode_both has text front rest b room st f (Part.Quoted from) (Quoted n) e h =
    quoted_both has front b st f from _ n (class_of b) (class_means b) h.0 h.1 (ap has (ap (unescaped_from false) (so_far text front rest from e h.0 ∙ h.1) ∙ back n))
mode_both has text front rest b room st f (Part.Escape from) (Escape n) e h = escape_both has front b st f from n (class_of b) (class_means b) h.0 h.1
mode_both has text front rest b room st f (Part.Done t) (Done r) e h = done_both has (front ++ b ∷ []) st f t r (class_of b) h
mode_both has text front rest b room st f Part.Start (Word w) e h = absurd h
mode_both has text front rest b room st f Part.Start (Quoted n) e h = absurd h
mode_both has text front rest b room st f Part.Start (Escape n) e h = absurd h
mode_both has text front rest b room st f Part.Start (Done r) e h = absurd h
mode_both has text front rest b room st f (Part.Word from) Start e h = absurd h
mode_both has text front rest b room st f (Part.Word from) (Quoted n) e h = absurd h
mode_both has text front rest b room st f (Part.Word from) (Escape n) e h = absurd h
mode_both has text front rest b room st f (Part.Word from) (Done r) e h = absurd h
mode_both has text front rest b room st f (Part.Quoted from) Start e h = absurd h
mode_both has text front rest b room st f (Part.Quoted from) (Word w) e h = absurd h
mode_both has text front rest b room st f (Part.Quoted from) (Escape n) e h = absurd h
mode_both has text front rest b room st f (Part.Quoted from) (Done r) e h = absurd h
mode_both has text front rest b room st f (Part.Escape from) Start e h = absurd h
mode_both has text front rest b room st f (Part.Escape from) (Word w) e h = absurd h
mode_both has text front rest b room st f (Part.Escape from) (Quoted n) e h = absurd h
mode_both has text front rest b room st f (Part.Escape from) (Done r) e h = absurd h
mode_both has text front rest b room st f (Part.Done t) Start e h = absurd h
mode_both has text front rest b room st f (Part.Done t) (Word w) e h = absurd h
mode_both has text front rest b room st f (Part.Done t) (Quoted n) e h = absurd h
mode_both has text front rest b room st f (Part.Done t) (Escape n) e h = absurd h

-- behind one more byte
pub step_both : (has : List ℕ → Bool) (text front rest : List ℕ) (b room : ℕ) (outer : List Level) (level : Level) (unit : Part) (s : State)
    → text ≡ front ++ b ∷ rest → Stands has front outer level unit s →
    Both has (front ++ b ∷ []) (pass_step room has text (length front) outer level unit (class_of b)) (step room s b)
step_both has text front rest b room outer level unit s e h =
    rw (h.around, h.here) (mode_both has text front (b ∷ rest) b room s.stack s.frame unit s.mode e h.part)

-- at the end
pub end_truth : (has : List ℕ → Bool) (text : List ℕ) (outer : List Level) (level : Level) (unit : Part) (s : State)
    → Stands has text outer level unit s → pass_truth has text outer level unit ≡ option_map (holds has) (tree_of s)
end_truth has text outer level unit s h = rw (h.around, h.here) (by_mode has text s.stack s.frame unit s.mode h.part)
  where
    by_mode : (has : List ℕ → Bool) (text : List ℕ) (st : List Frame) (f : Frame) (u : Part) (m : Mode) → UnitIs has text u m
        → pass_truth has text (map (level_of has) st) (level_of has f) u ≡ option_map (holds has) (whole st f m)
    by_mode has text (g ∷ st) f u m h = refl
    by_mode has text [] Free Part.Start Start h = refl
    by_mode has text [] (Joined op rs) Part.Start Start h = refl
    by_mode has text [] Free (Part.Word from) (Word w) h = ap Some (ap has h.1)
    by_mode has text [] (Joined op rs) (Part.Word from) (Word w) h =
        ap Some (ap (λ (k : List ℕ). level_truth (level_of has (Joined op rs)) (has k)) h.1 ∙ closed_truth has (Joined op rs) (Term w))
    by_mode has text [] Free (Part.Quoted from) (Quoted n) h = refl
    by_mode has text [] (Joined op rs) (Part.Quoted from) (Quoted n) h = refl
    by_mode has text [] Free (Part.Escape from) (Escape n) h = refl
    by_mode has text [] (Joined op rs) (Part.Escape from) (Escape n) h = refl
    by_mode has text [] Free (Part.Done t) (Done r) h = ap Some h
    by_mode has text [] (Joined op rs) (Part.Done t) (Done r) h =
        ap Some (ap (level_truth (level_of has (Joined op rs))) h ∙ closed_truth has (Joined op rs) r)
    by_mode has text [] f Part.Start (Word w) h = absurd h
    by_mode has text [] f Part.Start (Quoted n) h = absurd h
    by_mode has text [] f Part.Start (Escape n) h = absurd h
    by_mode has text [] f Part.Start (Done r) h = absurd h
    by_mode has text [] f (Part.Word from) Start h = absurd h
    by_mode has text [] f (Part.Word from) (Quoted n) h = absurd h
    by_mode has text [] f (Part.Word from) (Escape n) h = absurd h
    by_mode has text [] f (Part.Word from) (Done r) h = absurd h
    by_mode has text [] f (Part.Quoted from) Start h = absurd h
    by_mode has text [] f (Part.Quoted from) (Word w) h = absurd h
    by_mode has text [] f (Part.Quoted from) (Escape n) h = absurd h
    by_mode has text [] f (Part.Quoted from) (Done r) h = absurd h
    by_mode has text [] f (Part.Escape from) Start h = absurd h
    by_mode has text [] f (Part.Escape from) (Word w) h = absurd h
    by_mode has text [] f (Part.Escape from) (Quoted n) h = absurd h
    by_mode has text [] f (Part.Escape from) (Done r) h = absurd h
    by_mode has text [] f (Part.Done t) Start h = absurd h
    by_mode has text [] f (Part.Done t) (Word w) h = absurd h
    by_mode has text [] f (Part.Done t) (Quoted n) h = absurd h
    by_mode has text [] f (Part.Done t) (Escape n) h = absurd h

-- the unit begins no later
pub unit_placed : (has : List ℕ → Bool) (front : List ℕ) (u : Part) (m : Mode) → UnitIs has front u m → IsPlaced u (length front)
unit_placed has front Part.Start m h = tt
unit_placed has front (Part.Done t) m h = tt
unit_placed has front (Part.Word from) (Word w) h = h.0
unit_placed has front (Part.Quoted from) (Quoted n) h = h.0
unit_placed has front (Part.Escape from) (Escape n) h = h.0
unit_placed has front (Part.Word from) Start h = absurd h
unit_placed has front (Part.Word from) (Quoted n) h = absurd h
unit_placed has front (Part.Word from) (Escape n) h = absurd h
unit_placed has front (Part.Word from) (Done r) h = absurd h
unit_placed has front (Part.Quoted from) Start h = absurd h
unit_placed has front (Part.Quoted from) (Word w) h = absurd h
unit_placed has front (Part.Quoted from) (Escape n) h = absurd h
unit_placed has front (Part.Quoted from) (Done r) h = absurd h
unit_placed has front (Part.Escape from) Start h = absurd h
unit_placed has front (Part.Escape from) (Word w) h = absurd h
unit_placed has front (Part.Escape from) (Quoted n) h = absurd h
unit_placed has front (Part.Escape from) (Done r) h = absurd h
