-- A text is a label, or is refused with one fault and place.
use Rattle.std.proofs.Common.{◌≡◌, ◌≢◌, ◌⊎◌, inl, inr, ℕ, suc, ◌+◌, ◌<◌, ◌≤◌, List, [], ◌∷◌, ◌++◌, length, take, drop, Bool, true, false, Option}
use Rattle.std.proofs.Common.{Some, None, refl, sym, ap, ◌∙◌, subst, append_assoc, arith, take-append-drop}
use lib.Dec.{ltb}
use Rattle.std.proofs.Math.Seq.{take-append_seam, take-append-add}
use Rattle.std.proofs.lemmas.Bool.{lt-ltb, ltb-true, ltb-false}
use Rattle.std.proofs.lemmas.List.{take-take, append-nil, length-append}
use Rattle.st_label.specs.Tree.{Tree}
use Rattle.st_label.specs.Grammar.{Reads}
use Rattle.st_label.specs.inner.Machine.{Class, Plain, Sign, Quote, Backslash, Open, Close, Other, class_of, Frame, Free, Mode, Start, Word, Quoted}
use Rattle.st_label.specs.inner.Machine.{Escape, Done, State, state, init, step_start, step_mode, step, run, tree_of}
use Rattle.st_label.specs.Reading.{reading, IsLabel}
use Rattle.st_label.specs.Refusals.{max_depth, max_len, BeginsLabel, StopsAt, IsUnfinishedAt, TooDeepAt}
use Rattle.st_label.specs.Faults.{RefusesLabel}
use Rattle.st_label.specs.declared.label.LabelFault.{LabelFault}
use Rattle.st_label.specs.declared.label.LabelFault.TheVariants.{BadLabel, TooLong, TooDeep, NoMemory}
use Rattle.st_label.proofs.Places.{no_step, runs_begins, runs_reads, run_append, is_label}
use Rattle.st_label.proofs.Chars.{no_step_within, one_wider, Behind, ends}

-- ---- no two faults

begins_front : (d : ℕ) (text front rest : List ℕ) → text ≡ front ++ rest → BeginsLabel d text → BeginsLabel d front
begins_front d text front rest e b = record {
  rest = rest ++ b.rest;
  tree = b.tree;
  reads = subst (λ s. Reads d s b.tree) (ap (λ s. s ++ b.rest) e ∙ append_assoc front rest b.rest) b.reads;
}

begins_take : (d : ℕ) (text : List ℕ) (m k : ℕ) → m ≤ k → BeginsLabel d (take k text) → BeginsLabel d (take m text)
begins_take d text m k less b =
    begins_front d (take k text) (take m text) (drop m (take k text)) (sym (take-append-drop m (take k text)) ∙ ap (λ s. s ++ drop m (take k text)) (take-take m k text less)) b

-- the first place past which no text begins within the depth
record Breaks (text : List ℕ) (at : ℕ) : Type 0 where
  inside : at < length text
  before : BeginsLabel max_depth (take at text)
  past : BeginsLabel max_depth (take (at + 1) text) → ⊥

by_stop : (text : List ℕ) (at : ℕ) → StopsAt text at → Breaks text at
by_stop text at s = record { inside = s.inside; before = s.before; past = λ b. s.here (max_depth, b) }

by_depth : (text : List ℕ) (at : ℕ) → TooDeepAt text at → Breaks text at
by_depth text at d = record { inside = d.inside; before = d.before; past = d.here }

begins_all : (text : List ℕ) (at : ℕ) → Breaks text at → BeginsLabel max_depth text → ⊥
begins_all text at b all = b.past (begins_front max_depth text (take (at + 1) text) (drop (at + 1) text) (sym (take-append-drop (at + 1) text)) all)

not_below : (text : List ℕ) (a b : ℕ) → Breaks text a → Breaks text b → a < b → ⊥
not_below text a b x y less = x.past (begins_take max_depth text (a + 1) b (omega arith) y.before)

one_break : (text : List ℕ) (a b : ℕ) → Breaks text a → Breaks text b → a ≡ b
one_break text a b x y = omega (arith, not_below text a b x y, not_below text b a y x)

one_bad : (text : List ℕ) (a b : ℕ) → StopsAt text a ⊎ IsUnfinishedAt text a → StopsAt text b ⊎ IsUnfinishedAt text b → a ≡ b
one_bad text a b (inl s) (inl t) = one_break text a b (by_stop text a s) (by_stop text b t)
one_bad text a b (inl s) (inr e) = absurd (begins_all text a (by_stop text a s) e.before)
one_bad text a b (inr e) (inl t) = absurd (begins_all text b (by_stop text b t) e.before)
one_bad text a b (inr e) (inr k) = e.end ∙ sym k.end

bad_or_deep : (text : List ℕ) (a b : ℕ) → StopsAt text a ⊎ IsUnfinishedAt text a → TooDeepAt text b → ⊥
bad_or_deep text a b (inl s) d =
    let same = one_break text a b (by_stop text a s) (by_depth text b d) in
    s.here (rw same d.viable)
bad_or_deep text a b (inr e) d = begins_all text b (by_depth text b d) e.before

pub one_fault : (text : List ℕ) (f g : LabelFault) → f ≢ NoMemory → g ≢ NoMemory → RefusesLabel text f → RefusesLabel text g → f ≡ g
one_fault text (BadLabel a) (BadLabel b) h k x y = ap BadLabel (one_bad text a b x.1 y.1)
one_fault text (BadLabel a) TooLong h k x y = let short = x.0 in absurd (omega arith)
one_fault text (BadLabel a) (TooDeep b) h k x y = absurd (bad_or_deep text a b x.1 y.1)
one_fault text TooLong (BadLabel b) h k x y = let short = y.0 in absurd (omega arith)
one_fault text TooLong TooLong h k x y = refl
one_fault text TooLong (TooDeep b) h k x y = let short = y.0 in absurd (omega arith)
one_fault text (TooDeep a) (BadLabel b) h k x y = absurd (bad_or_deep text b a y.1 x.1)
one_fault text (TooDeep a) TooLong h k x y = let short = x.0 in absurd (omega arith)
one_fault text (TooDeep a) (TooDeep b) h k x y = ap TooDeep (one_break text a b (by_depth text a x.1) (by_depth text b y.1))
one_fault text NoMemory g h k x y = absurd (h refl)
one_fault text (BadLabel a) NoMemory h k x y = absurd (k refl)
one_fault text TooLong NoMemory h k x y = absurd (k refl)
one_fault text (TooDeep a) NoMemory h k x y = absurd (k refl)

-- ---- no fault of a label

begins_itself : (text : List ℕ) → IsLabel text → BeginsLabel max_depth text
begins_itself text is = record { rest = []; tree = reading text; reads = subst (λ s. Reads max_depth s (reading text)) (sym (append-nil text)) is.reads }

pub not_both : (text : List ℕ) (f : LabelFault) → f ≢ NoMemory → IsLabel text → RefusesLabel text f → ⊥
not_both text (BadLabel a) h is (short, inl s) = begins_all text a (by_stop text a s) (begins_itself text is)
not_both text (BadLabel a) h is (short, inr e) = e.here max_depth (reading text) is.reads
not_both text TooLong h is x = let short = is.short in omega arith
not_both text (TooDeep a) h is x = begins_all text a (by_depth text a x.1) (begins_itself text is)
not_both text NoMemory h is x = h refl

-- ---- a label or a fault

abbrev pub Refused : List ℕ → Type 0
Refused text = (f : LabelFault) × (f ≢ NoMemory) × RefusesLabel text f

-- A byte that isn't taken is taken at no depth, or at a greater one.
AtNoDepth : (ℕ → Option State) → Type 0
AtNoDepth steps = (wide : ℕ) → steps wide ≡ None

AtSomeDepth : (ℕ → Option State) → Type 0
AtSomeDepth steps = (wide : ℕ) × (t : State) × (steps wide ≡ Some t)

start_fails : (st : List Frame) (f : Frame) (bs : List ℕ) (c : Class) → step_start max_depth st f bs c ≡ None
    → AtNoDepth (λ room. step_start room st f bs c) ⊎ AtSomeDepth (λ room. step_start room st f bs c)
unfolding AtNoDepth AtSomeDepth
start_fails st f bs Plain e = cc
start_fails st f bs (Sign op) e = inl (λ wide. refl)
start_fails st f bs Quote e = cc
start_fails st f bs Backslash e = inl (λ wide. refl)
start_fails st f bs Open e = inr (suc (length st), state (f ∷ st) Free Start, rw (lt-ltb (length st) (suc (length st)) (omega arith)) refl)
start_fails st f bs Close e = inl (λ wide. refl)
start_fails st f bs Other e = inl (λ wide. refl)

mode_fails : (st : List Frame) (f : Frame) (bs : List ℕ) (c : Class) (m : Mode) → step_mode max_depth st f bs c m ≡ None
    → AtNoDepth (λ room. step_mode room st f bs c m) ⊎ AtSomeDepth (λ room. step_mode room st f bs c m)
unfolding AtNoDepth AtSomeDepth
mode_fails st f bs c Start e = start_fails st f bs c e
mode_fails st f bs c (Word w) e = inl (λ wide. e)
mode_fails st f bs c (Quoted n) e = inl (λ wide. e)
mode_fails st f bs c (Escape n) e = inl (λ wide. e)
mode_fails st f bs c (Done r) e = inl (λ wide. e)

refused_at : (text front rest : List ℕ) (b : ℕ) (s : State) → length text ≤ max_len → text ≡ front ++ b ∷ rest → run max_depth init front ≡ Some s → step max_depth s b ≡ None →
    AtNoDepth (λ room. step room s b) ⊎ AtSomeDepth (λ room. step room s b) → Refused text
unfolding AtNoDepth AtSomeDepth
refused_at text front rest b s short whole runs none (inl never) =
    let stop : StopsAt text (length front) = record {
      inside = rw whole (omega (arith, length-append front (b ∷ rest)));
      before = rw (whole, take-append_seam front (b ∷ rest)) (runs_begins max_depth front s runs);
      here = rw (whole, take-append-add front (b ∷ rest) 1) (no_step max_depth front b s runs never);
    } in
    (BadLabel (length front), (λ e. cc), (short, inl stop))
refused_at text front rest b s short whole runs none (inr deep) =
    let too_deep : TooDeepAt text (length front) = record {
      inside = rw whole (omega (arith, length-append front (b ∷ rest)));
      before = rw (whole, take-append_seam front (b ∷ rest)) (runs_begins max_depth front s runs);
      viable = rw (whole, take-append-add front (b ∷ rest) 1) (one_wider front b deep.0 s deep.1 runs deep.2);
      here = rw (whole, take-append-add front (b ∷ rest) 1) (no_step_within front b s runs none);
    } in
    (TooDeep (length front), (λ e. cc), (short, too_deep))

at_end : (text : List ℕ) (s : State) (o : Option Tree) → length text ≤ max_len → run max_depth init text ≡ Some s → tree_of s ≡ o → IsLabel text ⊎ Refused text
at_end text s None short runs e =
    let behind : Behind text (length text) [] s = record { front = text; parts = sym (append-nil text); place = refl; runs = runs } in
    inr (BadLabel (length text), (λ e. cc), (short, inr (ends text [] (length text) s behind refl e)))
at_end text s (Some r) short runs e =
    inl (is_label text r short (runs_reads max_depth text s r runs e))

decide_step : (rest text front : List ℕ) (s : State) (b : ℕ) (o : Option State) → length text ≤ max_len → text ≡ front ++ b ∷ rest → run max_depth init front ≡ Some s → step max_depth s b ≡ o →
    ((t : State) → text ≡ (front ++ b ∷ []) ++ rest → run max_depth init (front ++ b ∷ []) ≡ Some t → IsLabel text ⊎ Refused text) → IsLabel text ⊎ Refused text
decide_step rest text front s b None short whole runs e go =
    inr (refused_at text front rest b s short whole runs e (mode_fails s.stack s.frame (b ∷ []) (class_of b) s.mode e))
decide_step rest text front s b (Some t) short whole runs e go =
    let last : run max_depth s (b ∷ []) ≡ Some t = rw e refl in
    go t (whole ∙ sym (append_assoc front (b ∷ []) rest)) (run_append front max_depth init (b ∷ []) ∙ rw runs last)

decide : (rest text front : List ℕ) (s : State) → length text ≤ max_len → text ≡ front ++ rest → run max_depth init front ≡ Some s → IsLabel text ⊎ Refused text
decide [] text front s short whole runs =
    let all : text ≡ front = whole ∙ append-nil front in
    at_end text s (tree_of s) short (rw all runs) refl
decide (b ∷ rest) text front s short whole runs =
    decide_step rest text front s b (step max_depth s b) short whole runs refl (λ t split more. decide rest text (front ++ b ∷ []) t short split more)

by_length : (text : List ℕ) (v : Bool) → ltb max_len (length text) ≡ v → IsLabel text ⊎ Refused text
by_length text true e = inr (TooLong, (λ e. cc), ltb-true max_len (length text) e)
by_length text false e = decide text text [] init (ltb-false max_len (length text) e) refl refl

pub label_or_refused : (text : List ℕ) → IsLabel text ⊎ Refused text
label_or_refused text = by_length text (ltb max_len (length text)) refl
