-- The reader's runs, against the texts of the grammar: which place is refused, and that a text has one tree.
use Rattle.std.proofs.Common.{◌≡◌, ℕ, ◌+◌, ◌≤◌, nat_lt, List, [], ◌∷◌, ◌++◌, length, Bool, true, false, Option, Some, None, refl, sym, ◌∙◌, ap, arith, option_and_then, unwrap_or, if◌then◌else◌}
use Rattle.std.proofs.lemmas.List.{append-nil}
use Rattle.std.proofs.lemmas.Bool.{lt-ltb, ltb-true}
use Rattle.st_label.specs.Tree.{Tree, Or, none as no_operands}
use Rattle.st_label.specs.Grammar.{Reads, nothing, level}
use Rattle.st_label.specs.Refusals.{BeginsLabel, Viable, max_len, max_depth}
use Rattle.st_label.specs.Reading.{reading, IsLabel}
use Rattle.st_label.specs.inner.Machine.{Class, Plain, Sign, Quote, Backslash, Open, Close, Other, class_of, Frame, Free, Mode, Start, Word, Quoted}
use Rattle.st_label.specs.inner.Machine.{Escape, Done, State, state, init, step_mode, step_start, step, run, tree_of}
use Rattle.st_label.proofs.Complete.{level_runs, Ends, whole_after}
use Rattle.st_label.proofs.Sound.{At, AtNext, init_at, run_at, begins, reads}

-- what a reader does with a whole text
pub record Takes (room : ℕ) (t : List ℕ) (r : Tree) : Type 0 where
  pub last : State
  pub runs : run room init t ≡ Some last
  pub tree : tree_of last ≡ Some r

level_taken : (room : ℕ) (t : List ℕ) (r : Tree) → Ends room [] t r → Takes room t r
level_taken room t r h = record {
  last = state [] h.frame h.mode;
  runs = ap (run room init) (sym (append-nil t)) ∙ h.runs [];
  tree = whole_after h.frame h.last h.mode h.holds ∙ ap Some h.tree;
}

pub takes : {d : ℕ} {t : List ℕ} {r : Tree} → Reads d t r → (room : ℕ) → d ≤ room → Takes room t r
takes nothing room h = record { last = init; runs = refl; tree = refl }
takes (level {d} {t} {r} l) room h =
    let fits : d + 0 ≤ room = omega arith in
    level_taken room t r (level_runs l room [] fits)

and_then_some : {A B : Type 0} (o : Option A) (go : A → Option B) (y : B) → option_and_then go o ≡ Some y → (x : A) × (o ≡ Some x)
and_then_some None go y h = cc
and_then_some (Some x) go y h = (x, refl)

pub run_append : (p : List ℕ) (room : ℕ) (s : State) (q : List ℕ) → run room s (p ++ q) ≡ option_and_then (λ t. run room t q) (run room s p)
run_append [] room s q = refl
run_append (b ∷ p) room s q = run_append_next room q p (step room s b) (λ t. run_append p room t q)
  where
    run_append_next : (room : ℕ) (q p : List ℕ) (o : Option State) → ((t : State) → run room t (p ++ q) ≡ option_and_then (λ t. run room t q) (run room t p)) →
        option_and_then (λ t. run room t (p ++ q)) o ≡ option_and_then (λ t. run room t q) (option_and_then (λ t. run room t p) o)
    run_append_next room q p None go = refl
    run_append_next room q p (Some t) go = go t

-- A text that begins one of the grammar is read to its end.
pub begins_runs : (d : ℕ) (p : List ℕ) → BeginsLabel d p → (room : ℕ) → d ≤ room → (s : State) × (run room init p ≡ Some s)
begins_runs d p h room fits =
    let all = takes h.reads room fits in
    and_then_some (run room init p) (λ t. run room t h.rest) all.last (sym (run_append p room init h.rest) ∙ all.runs)

at_some : (room : ℕ) (o : Option State) (p : List ℕ) (s : State) → o ≡ Some s → AtNext room o p → At room s.stack s.frame s.mode p
at_some room o p s e h = rw e at h

-- Where the reader stands, the bytes begin a text of the grammar.
pub runs_at : (room : ℕ) (p : List ℕ) (s : State) → run room init p ≡ Some s → At room s.stack s.frame s.mode p
runs_at room p s h = at_some room (run room init p) p s h (run_at p room init [] (init_at room))

pub runs_begins : (room : ℕ) (p : List ℕ) (s : State) → run room init p ≡ Some s → BeginsLabel room p
runs_begins room p s h = begins room s.stack s.frame s.mode p (runs_at room p s h)

pub runs_reads : (room : ℕ) (p : List ℕ) (s : State) (r : Tree) → run room init p ≡ Some s → tree_of s ≡ Some r → Reads room p r
runs_reads room p s r h e = reads room s.stack s.frame s.mode p r (runs_at room p s h) e

-- More room changes no step that there was.
start_mono : (room wide : ℕ) (st : List Frame) (f : Frame) (b : ℕ) (c : Class) (t : State) → room ≤ wide → step_start room st f (b ∷ []) c ≡ Some t → step_start wide st f (b ∷ []) c ≡ Some t
start_mono room wide st f b Plain t h e = e
start_mono room wide st f b (Sign op) t h e = e
start_mono room wide st f b Quote t h e = e
start_mono room wide st f b Backslash t h e = e
start_mono room wide st f b Open t h e = open_mono room wide st f t _ h refl e
  where
    open_mono : (room wide : ℕ) (st : List Frame) (f : Frame) (t : State) (v : Bool) → room ≤ wide → nat_lt (length st) room ≡ v → (if v then Some (state (f ∷ st) Free Start) else None) ≡ Some t →
        (if nat_lt (length st) wide then Some (state (f ∷ st) Free Start) else None) ≡ Some t
    open_mono room wide st f t true h k e = let lt = ltb-true (length st) room k in rw (lt-ltb (length st) wide (omega arith)) e
    open_mono room wide st f t false h k e = cc
start_mono room wide st f b Close t h e = e
start_mono room wide st f b Other t h e = e

step_mono : (room wide : ℕ) (st : List Frame) (f : Frame) (b : ℕ) (c : Class) (m : Mode) (t : State) → room ≤ wide
    → step_mode room st f (b ∷ []) c m ≡ Some t → step_mode wide st f (b ∷ []) c m ≡ Some t
step_mono room wide st f b c Start t h e = start_mono room wide st f b c t h e
step_mono room wide st f b c (Word w) t h e = e
step_mono room wide st f b c (Quoted n) t h e = e
step_mono room wide st f b c (Escape n) t h e = e
step_mono room wide st f b c (Done r) t h e = e

pub run_mono : (p : List ℕ) (room wide : ℕ) (s t : State) → room ≤ wide → run room s p ≡ Some t → run wide s p ≡ Some t
run_mono [] room wide s t h e = e
run_mono (b ∷ p) room wide s t h e =
    let first = and_then_some (step room s b) (λ next. run room next p) t e in
    let same : step wide s b ≡ Some first.0 = step_mono room wide s.stack s.frame b (class_of b) s.mode first.0 h first.1 in
    let rest : run room first.0 p ≡ Some t = rw first.1 at e in
    rw same (run_mono p room wide first.0 t h rest)

-- A text has one tree.
pub one_tree : (d e : ℕ) (t : List ℕ) (r s : Tree) → Reads d t r → Reads e t s → r ≡ s
one_tree d e t r s h k =
    let room = d + e in
    let left = takes h (d + e) (omega arith) in
    let right = takes k (d + e) (omega arith) in
    let same : left.last ≡ right.last = let both : Some left.last ≡ Some right.last = sym left.runs ∙ right.runs in cc in
    let trees : Some r ≡ Some s = sym left.tree ∙ ap tree_of same ∙ right.tree in
    cc

-- A text reads as the tree of the grammar.
pub reading_is : (text : List ℕ) (tree : Tree) → Reads max_depth text tree → reading text ≡ tree
unfolding reading
reading_is text tree h =
    let all = takes h max_depth (omega arith) in
    simp (all.runs, all.tree) refl

pub is_label : (text : List ℕ) (tree : Tree) → length text ≤ max_len → Reads max_depth text tree → IsLabel text
is_label text tree short h = record { reads = rw (reading_is text tree h) h; short = short }

-- What is no text of the grammar is true for nobody.
pub reading_none : (text : List ℕ) → ((tree : Tree) → Reads max_depth text tree → ⊥) → reading text ≡ Or no_operands
unfolding reading
reading_none text h = by_run text (run max_depth init text) refl h
  where
    by_tree : (text : List ℕ) (s : State) (o : Option Tree) → run max_depth init text ≡ Some s → tree_of s ≡ o
        → ((tree : Tree) → Reads max_depth text tree → ⊥) → unwrap_or o (Or no_operands) ≡ Or no_operands
    by_tree text s None runs e h = refl
    by_tree text s (Some r) runs e h = absurd (h r (runs_reads max_depth text s r runs e))

    by_run : (text : List ℕ) (o : Option State) → run max_depth init text ≡ o → ((tree : Tree) → Reads max_depth text tree → ⊥)
        → unwrap_or (option_and_then tree_of o) (Or no_operands) ≡ Or no_operands
    by_run text None runs h = refl
    by_run text (Some s) runs h = by_tree text s (tree_of s) runs refl h

-- A byte that no step takes, at any depth, begins nothing.
pub no_step : (room : ℕ) (p : List ℕ) (b : ℕ) (s : State) → run room init p ≡ Some s → ((wide : ℕ) → step wide s b ≡ None) → Viable (p ++ b ∷ []) → ⊥
no_step room p b s h none viable =
    let wide = viable.0 + room in
    let all = begins_runs viable.0 (p ++ b ∷ []) viable.1 (viable.0 + room) (omega arith) in
    let front : run (viable.0 + room) init p ≡ Some s = run_mono p room (viable.0 + room) init s (omega arith) h in
    let last : option_and_then (λ t. run (viable.0 + room) t (b ∷ [])) (run (viable.0 + room) init p) ≡ Some all.0 = sym (run_append p (viable.0 + room) init (b ∷ [])) ∙ all.1 in
    let at : option_and_then (λ next. run (viable.0 + room) next []) (step (viable.0 + room) s b) ≡ Some all.0 = rw front at last in
    let failed : option_and_then (λ next. run (viable.0 + room) next []) None ≡ Some all.0 = rw (none (viable.0 + room)) at at in
    cc
