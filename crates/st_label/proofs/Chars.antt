-- The reader over a character's bytes, and over a label's.
use Rattle.std.proofs.Common.{◌≡◌, ℕ, ◌+◌, ◌/◌, ◌<◌, ◌≤◌, ◌==◌, List, [], ◌∷◌, ◌++◌, length, Bool, true, false, Option, Some, None, sym, ap, ◌∙◌, refl, arith, append_assoc, option_and_then}
use lib.Utf8.{encode, next}
use lib.Dec.{ltb}
use Rattle.std.proofs.lemmas.Bool.{ltb-true, ltb-false}
use Rattle.std.proofs.lemmas.Bool.Decides.{nat_tests}
use Rattle.std.proofs.lemmas.Str.{encode_ascii, length-encode, len_utf8_bounds}
use Rattle.std.proofs.lemmas.List.{append-nil}
use Rattle.st_label.specs.Tree.{Tree}
use Rattle.st_label.specs.Grammar.{is_plain}
use Rattle.st_label.specs.Refusals.{max_depth, BeginsLabel, Viable, IsUnfinishedAt}
use Rattle.st_label.specs.Reading.{reading, IsLabel}
use Rattle.st_label.specs.inner.Machine.{Other, class_of, Frame, Mode, Start, Word, Quoted, Escape, Done, State, state, init, step_mode, step, run, tree_of}
use Rattle.st_label.proofs.Places.{takes, runs_begins, run_append, run_mono, begins_runs}

-- bytes past ASCII
abbrev pub AllHigh : List ℕ → Type 0
AllHigh [] = Unit {0}
AllHigh (b ∷ bs) = (128 ≤ b) × AllHigh bs

high_next : (n : ℕ) → 128 ≤ next n
high_next n = omega arith

encode_high_by : (c : ℕ) (p q r : Bool) → ltb c 128 ≡ p → ltb c 2048 ≡ q → ltb c 65536 ≡ r → 128 ≤ c → AllHigh (encode c)
unfolding encode
encode_high_by c true q r hp hq hr high = let low = ltb-true c 128 hp in absurd (omega arith)
encode_high_by c false true r hp hq hr high = rw (hp, hq) (omega arith, (high_next c, tt))
encode_high_by c false false true hp hq hr high = rw (hp, hq, hr) (omega arith, (high_next (c / 64), (high_next c, tt)))
encode_high_by c false false false hp hq hr high = rw (hp, hq, hr) (omega arith, (high_next (c / 4096), (high_next (c / 64), (high_next c, tt))))

pub encode_high : (c : ℕ) → 128 ≤ c → AllHigh (encode c)
encode_high c h = encode_high_by c _ _ _ refl refl refl h

first_of : (l : List ℕ) → 1 ≤ length l → (b : ℕ) × (bs : List ℕ) × (l ≡ b ∷ bs)
first_of [] h = absurd (omega arith)
first_of (b ∷ bs) h = (b, bs, refl)

some_bytes : (c : ℕ) → (b : ℕ) × (bs : List ℕ) × (encode c ≡ b ∷ bs)
some_bytes c = let bounds = len_utf8_bounds c in first_of (encode c) (omega (arith, length-encode c, bounds.0))

pub not_same : (b n : ℕ) → n < b → (b == n) ≡ false
not_same b n h = grind (arith, nat_tests)

plain_high : (b : ℕ) → 128 ≤ b → is_plain b ≡ false
plain_high b h = grind (arith, nat_tests)

class_high : (b : ℕ) → 128 ≤ b → class_of b ≡ Other
unfolding class_of
class_high b h =
    rw (
      plain_high b h,
      not_same b 38 (omega arith),
      not_same b 124 (omega arith),
      not_same b 34 (omega arith),
      not_same b 92 (omega arith),
      not_same b 40 (omega arith),
      not_same b 41 (omega arith),
    ) refl

quoted_high : (bs : List ℕ) (room : ℕ) (st : List Frame) (f : Frame) (n : List ℕ) → AllHigh bs → run room (state st f (Quoted n)) bs ≡ Some (state st f (Quoted (n ++ bs)))
quoted_high [] room st f n h = rw append-nil refl
quoted_high (b ∷ bs) room st f n h =
    rw (class_high b h.0) (quoted_high bs room st f (n ++ b ∷ []) h.1 ∙ ap (λ k. Some (state st f (Quoted k))) (append_assoc n (b ∷ []) bs))

last_step : (o : Option State) → option_and_then (λ s. Some s) o ≡ o
last_step None = refl
last_step (Some s) = refl

-- what the reader does with a character
other_run : (room : ℕ) (st : List Frame) (f : Frame) (m : Mode) (b : ℕ) (bs : List ℕ) → AllHigh (b ∷ bs) → run room (state st f m) (b ∷ bs) ≡ step_mode room st f (b ∷ bs) Other m
other_run room st f Start b bs h = rw (class_high b h.0) refl
other_run room st f (Word w) b bs h = rw (class_high b h.0) refl
other_run room st f (Quoted n) b bs h = quoted_high (b ∷ bs) room st f n h
other_run room st f (Escape n) b bs h = rw (class_high b h.0) refl
other_run room st f (Done r) b bs h = rw (class_high b h.0) refl

char_run_by : (room : ℕ) (st : List Frame) (f : Frame) (m : Mode) (c : ℕ) (v : Bool) → ltb c 128 ≡ v → run room (state st f m) (encode c) ≡ step_mode room st f (encode c) (class_of c) m
char_run_by room st f m c true h = rw (encode_ascii c (ltb-true c 128 h)) (last_step (step_mode room st f (c ∷ []) (class_of c) m))
char_run_by room st f m c false h =
    let high : 128 ≤ c = ltb-false c 128 h in
    let bytes = some_bytes c in
    let all : AllHigh (bytes.0 ∷ bytes.1) = rw bytes.2 at (encode_high c high) in
    rw (bytes.2, class_high c high) (other_run room st f m bytes.0 bytes.1 all)

pub char_run : (room : ℕ) (st : List Frame) (f : Frame) (m : Mode) (c : ℕ) → run room (state st f m) (encode c) ≡ step_mode room st f (encode c) (class_of c) m
char_run room st f m c = char_run_by room st f m c _ refl

-- The reader stands at s behind the first bytes of the text, and before the rest.
pub record Behind (text : List ℕ) (at : ℕ) (rest : List ℕ) (s : State) : Type 0 where
  pub front : List ℕ
  pub parts : text ≡ front ++ rest
  pub place : at ≡ length front
  pub runs : run max_depth init front ≡ Some s

-- A character that more room takes.
pub no_step_within : (p : List ℕ) (b : ℕ) (s : State) → run max_depth init p ≡ Some s → step max_depth s b ≡ None → BeginsLabel max_depth (p ++ b ∷ []) → ⊥
no_step_within p b s h none begins =
    let all = begins_runs max_depth (p ++ b ∷ []) begins max_depth (omega arith) in
    let last : option_and_then (λ t. run max_depth t (b ∷ [])) (run max_depth init p) ≡ Some all.0 = sym (run_append p max_depth init (b ∷ [])) ∙ all.1 in
    let here : option_and_then (λ next. run max_depth next []) (step max_depth s b) ≡ Some all.0 = rw h at last in
    let failed : option_and_then (λ next. run max_depth next []) None ≡ Some all.0 = rw none at here in
    cc

pub one_wider : (p : List ℕ) (b wide : ℕ) (s t : State) → run max_depth init p ≡ Some s → step wide s b ≡ Some t → Viable (p ++ b ∷ [])
one_wider p b wide s t h k =
    let front : run (wide + max_depth) init p ≡ Some s = run_mono p max_depth (wide + max_depth) init s (omega arith) h in
    let one : run wide s (b ∷ []) ≡ Some t = rw k refl in
    let last : run (wide + max_depth) s (b ∷ []) ≡ Some t = run_mono (b ∷ []) wide (wide + max_depth) s t (omega arith) one in
    let all : run (wide + max_depth) init (p ++ b ∷ []) ≡ Some t = run_append p (wide + max_depth) init (b ∷ []) ∙ rw front last in
    (wide + max_depth, runs_begins (wide + max_depth) (p ++ b ∷ []) t all)

-- the end, where the text is none of the language
pub some_none : (o : Option Tree) (r : Tree) → o ≡ Some r → o ≡ None → ⊥
some_none o r h k = cc

pub ends : (text rest : List ℕ) (at : ℕ) (s : State) → Behind text at rest s → length rest ≡ 0 → tree_of s ≡ None → IsUnfinishedAt text (length text)
ends text rest at s h none fails =
    let empty : rest ≡ [] = nil_from_length rest none in
    let whole : text ≡ h.front = h.parts ∙ rw (empty, append-nil) refl in
    record {
      end = refl;
      before = rw whole (runs_begins max_depth h.front s h.runs);
      here = λ d r reads.
          let all = takes reads (d + max_depth) (omega arith) in
          let mine : run (d + max_depth) init text ≡ Some s = rw whole (run_mono h.front max_depth (d + max_depth) init s (omega arith) h.runs) in
          let same : all.last ≡ s = let both : Some all.last ≡ Some s = sym all.runs ∙ mine in cc in
          some_none (tree_of s) r (ap tree_of (sym same) ∙ all.tree) fails;
    }
  where
    nil_from_length : (rest : List ℕ) → length rest ≡ 0 → rest ≡ []
    nil_from_length [] h = refl
    nil_from_length (x ∷ xs) h = absurd (omega arith)

-- The reader of a label goes on as the machine does over all of its bytes.
pub by_char : (s : State) (rest left : List ℕ) (c : ℕ) → rest ≡ encode c ++ left →
    run max_depth s rest ≡ option_and_then (λ t. run max_depth t left) (step_mode max_depth s.stack s.frame (encode c) (class_of c) s.mode)
by_char s rest left c k =
    rw k (run_append (encode c) max_depth s left ∙ ap (option_and_then (λ t. run max_depth t left)) (char_run max_depth s.stack s.frame s.mode c))

pub one_more : (s t : State) (text rest left : List ℕ) (c : ℕ) → rest ≡ encode c ++ left → step_mode max_depth s.stack s.frame (encode c) (class_of c) s.mode ≡ Some t →
    run max_depth s rest ≡ run max_depth init text → run max_depth t left ≡ run max_depth init text
one_more s t text rest left c k e h = sym (by_char s rest left c k ∙ ap (option_and_then (λ next. run max_depth next left)) e) ∙ h

pub never_refused : (s : State) (text rest left : List ℕ) (c : ℕ) → IsLabel text → rest ≡ encode c ++ left → run max_depth s rest ≡ run max_depth init text →
    step_mode max_depth s.stack s.frame (encode c) (class_of c) s.mode ≡ None → ⊥
never_refused s text rest left c label k h none =
    let all = takes label.reads max_depth (omega arith) in
    let failed : run max_depth s rest ≡ None = by_char s rest left c k ∙ ap (option_and_then (λ next. run max_depth next left)) none in
    let both : Some all.last ≡ None = sym all.runs ∙ sym h ∙ failed in
    cc

pub whole_label : (s : State) (text rest : List ℕ) → IsLabel text → length rest ≡ 0 → run max_depth s rest ≡ run max_depth init text → tree_of s ≡ Some (reading text)
whole_label s text [] label none h =
    let all = takes label.reads max_depth (omega arith) in
    let both : Some s ≡ Some all.last = h ∙ all.runs in
    let same : s ≡ all.last = cc in
    ap tree_of same ∙ all.tree
whole_label s text (b ∷ rest) label none h = absurd (omega arith)

pub same_tree : (o : Option Tree) (r s : Tree) → o ≡ Some r → o ≡ Some s → r ≡ s
same_tree o r s h k = let both : Some r ≡ Some s = sym h ∙ k in cc
