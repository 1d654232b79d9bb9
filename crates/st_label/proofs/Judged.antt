-- The pass over a whole text.
use Rattle.std.proofs.Common.{◌≡◌, ◌+◌, ◌≤◌, ◌<◌, ℕ, List, [], ◌∷◌, ◌++◌, length, take, drop, get_or, Bool, Option, Some, None, refl, sym, ap, ◌∙◌}
use Rattle.std.proofs.Common.{subst, arith, option_map, option_and_then, take-append-drop}
use Rattle.std.proofs.lemmas.List.{take_more, take_all, drop_more, append-nil, length-take-le}
use Rattle.st_label.specs.Tree.{Tree, holds}
use Rattle.st_label.specs.Grammar.{Reads}
use Rattle.st_label.specs.Refusals.{max_depth, max_len, StopsAt, IsUnfinishedAt, TooDeepAt}
use Rattle.st_label.specs.Reading.{is_true, IsLabel}
use Rattle.st_label.specs.inner.Machine.{class_of, State, init, step, run, tree_of}
use Rattle.st_label.specs.inner.Truth.{Stage, pass_step, pass_truth, IsPlaced}
use Rattle.st_label.specs.declared.truth.Level.{Level}
use Rattle.st_label.specs.declared.truth.Part.{Part}
use Rattle.st_label.proofs.Truths.{Stands, Both, step_both, end_truth, unit_placed}
use Rattle.st_label.proofs.Places.{runs_begins, runs_reads, run_append, no_step, reading_is, is_label}
use Rattle.st_label.proofs.Chars.{no_step_within, one_wider, ends}

-- Behind the first bytes of the text the pass stands where the reader does.
pub record Reached (has : List ℕ → Bool) (text : List ℕ) (at : ℕ) (g : Stage) : Type 0 where
  pub last : State
  pub runs : run max_depth init (take at text) ≡ Some last
  pub stands : Stands has (take at text) g.outer g.level g.unit last

pub at_start : (has : List ℕ → Bool) (text : List ℕ) (g : Stage) → g.outer ≡ [] → g.level ≡ Level.Free → g.unit ≡ Part.Start → Reached has text 0 g
at_start has text g h k e = record { last = init; runs = refl; stands = record { around = h; here = k; part = rw e tt } }

pub placed : (has : List ℕ → Bool) (text : List ℕ) (at : ℕ) (g : Stage) → at ≤ length text → Reached has text at g → IsPlaced g.unit at
placed has text at g h r = subst (IsPlaced g.unit) (length-take-le at text h) (unit_placed has (take at text) g.unit r.last.mode r.stands.part)

-- the byte at a place, and what is around it
parts : (text : List ℕ) (at : ℕ) → at < length text → text ≡ take at text ++ get_or text at 0 ∷ drop (at + 1) text
parts text at h = sym (take-append-drop at text) ∙ ap (λ (k : List ℕ). take at text ++ k) (drop_more text at 0 h)

both_at : (has : List ℕ → Bool) (text : List ℕ) (at : ℕ) (g : Stage) (room : ℕ) → at < length text → (r : Reached has text at g) →
    Both has (take at text ++ get_or text at 0 ∷ []) (pass_step room has text at g.outer g.level g.unit (class_of (get_or text at 0))) (step room r.last (get_or text at 0))
both_at has text at g room h r =
    subst (λ place. Both has (take at text ++ get_or text at 0 ∷ []) (pass_step room has text place g.outer g.level g.unit (class_of (get_or text at 0))) (step room r.last (get_or text at 0)))
    (length-take-le at text (omega (arith, h))) (step_both has text (take at text) (drop (at + 1) text) (get_or text at 0) room g.outer g.level g.unit r.last (parts text at h) r.stands)

-- what the reader does where the pass does it
goes_on : (has : List ℕ → Bool) (front : List ℕ) (o : Option Stage) (g : Stage) (p : Option State) → o ≡ Some g → Both has front o p → (s : State)
    × (p ≡ Some s) × Stands has front g.outer g.level g.unit s
goes_on has front o g None e h = absurd (rw e at h)
goes_on has front o g (Some s) e h = (s, refl, rw e at h)

halts : (has : List ℕ → Bool) (front : List ℕ) (o : Option Stage) (p : Option State) → o ≡ None → Both has front o p → p ≡ None
halts has front o None e h = refl
halts has front o (Some s) e h = absurd (rw e at h)

one_step : (s t : State) (b : ℕ) → step max_depth s b ≡ Some t → run max_depth s (b ∷ []) ≡ Some t
one_step s t b e = rw e refl

pub further : (has : List ℕ → Bool) (text : List ℕ) (at : ℕ) (g next : Stage) → at < length text → Reached has text at g →
    pass_step max_depth has text at g.outer g.level g.unit (class_of (get_or text at 0)) ≡ Some next → Reached has text (at + 1) next
further has text at g next h r e =
    let on = goes_on has (take at text ++ get_or text at 0 ∷ []) _ next (step max_depth r.last (get_or text at 0)) e (both_at has text at g max_depth h r) in
    record {
      last = on.0;
      runs = ap (run max_depth init) (take_more text at 0 h) ∙ run_append (take at text) max_depth init (get_or text at 0 ∷ [])
          ∙ ap (option_and_then (λ t. run max_depth t (get_or text at 0 ∷ []))) r.runs
          ∙ one_step r.last on.0 (get_or text at 0) on.1;
      stands = rw (take_more text at 0 h) on.2;
    }

pub stops_at : (has : List ℕ → Bool) (text : List ℕ) (at : ℕ) (g : Stage) → at < length text → Reached has text at g →
    ((room : ℕ) → pass_step room has text at g.outer g.level g.unit (class_of (get_or text at 0)) ≡ None) → StopsAt text at
stops_at has text at g h r none = record {
  inside = h;
  before = runs_begins max_depth (take at text) r.last r.runs;
  here =
      rw (take_more text at 0 h)
      (no_step max_depth (take at text) (get_or text at 0) r.last r.runs
      (λ room. halts has (take at text ++ get_or text at 0 ∷ []) _ (step room r.last (get_or text at 0)) (none room)
      (both_at has text at g room h r)));
}

pub deep_at : (has : List ℕ → Bool) (text : List ℕ) (at : ℕ) (g next : Stage) (wide : ℕ) → at < length text → Reached has text at g →
    pass_step max_depth has text at g.outer g.level g.unit (class_of (get_or text at 0)) ≡ None
    → pass_step wide has text at g.outer g.level g.unit (class_of (get_or text at 0)) ≡ Some next → TooDeepAt text at
deep_at has text at g next wide h r none some =
    let on = goes_on has (take at text ++ get_or text at 0 ∷ []) _ next (step wide r.last (get_or text at 0)) some (both_at has text at g wide h r) in
    let off = halts has (take at text ++ get_or text at 0 ∷ []) _ (step max_depth r.last (get_or text at 0)) none (both_at has text at g max_depth h r) in
    record {
      inside = h;
      before = runs_begins max_depth (take at text) r.last r.runs;
      viable = rw (take_more text at 0 h) (one_wider (take at text) (get_or text at 0) wide r.last on.0 r.runs on.1);
      here = rw (take_more text at 0 h) (no_step_within (take at text) (get_or text at 0) r.last r.runs off);
    }

-- ---- the end

record AtEnd (has : List ℕ → Bool) (text : List ℕ) (g : Stage) : Type 0 where
  last : State
  runs : run max_depth init text ≡ Some last
  truth : pass_truth has text g.outer g.level g.unit ≡ option_map (holds has) (tree_of last)

take_whole : (text : List ℕ) (at : ℕ) → length text ≤ at → take at text ≡ text
take_whole text at h = take_all at text h

at_end : (has : List ℕ → Bool) (text : List ℕ) (at : ℕ) (g : Stage) → length text ≤ at → Reached has text at g → AtEnd has text g
at_end has text at g h r =
    let all : take at text ≡ text = take_whole text at h in
    record {
      last = r.last;
      runs = subst (λ k. run max_depth init k ≡ Some r.last) all r.runs;
      truth = end_truth has text g.outer g.level g.unit r.last (subst (λ k. Stands has k g.outer g.level g.unit r.last) all r.stands);
    }

some_tree : (has : List ℕ → Bool) (o : Option Tree) (t : Bool) → option_map (holds has) o ≡ Some t → (tree : Tree) × (o ≡ Some tree) × (t ≡ holds has tree)
some_tree has None t e = cc
some_tree has (Some tree) t e = (tree, refl, cc)

no_tree : (has : List ℕ → Bool) (o : Option Tree) → option_map (holds has) o ≡ None → o ≡ None
no_tree has None e = refl
no_tree has (Some tree) e = cc

pub ends_well : (has : List ℕ → Bool) (text : List ℕ) (at : ℕ) (g : Stage) (t : Bool) → length text ≤ max_len → length text ≤ at
    → Reached has text at g → pass_truth has text g.outer g.level g.unit ≡ Some t →
    IsLabel text × (t ≡ is_true has text)
ends_well has text at g t short h r e =
    let end = at_end has text at g h r in
    let found = some_tree has (tree_of end.last) t (sym end.truth ∙ e) in
    let reads : Reads max_depth text found.0 = runs_reads max_depth text end.last found.0 end.runs found.1 in
    (is_label text found.0 short reads, found.2 ∙ ap (holds has) (sym (reading_is text found.0 reads)))

pub ends_at : (has : List ℕ → Bool) (text : List ℕ) (at : ℕ) (g : Stage) → length text ≤ at → Reached has text at g
    → pass_truth has text g.outer g.level g.unit ≡ None → IsUnfinishedAt text (length text)
ends_at has text at g h r e =
    let end = at_end has text at g h r in
    ends text [] (length text) end.last (record { front = text; parts = sym (append-nil text); place = refl; runs = end.runs }) refl (no_tree has (tree_of end.last) (sym end.truth ∙ e))
