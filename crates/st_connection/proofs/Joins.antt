-- What is known of two stretches of a connection, put together.
use Rattle.std.proofs.Common.{ℕ, Bool, false, Option, List, [], ◌∷◌, ◌++◌, length, refl, sym, ap, ◌∙◌, subst, arith, length-append}
use Rattle.std.specs.List.{concat}
use Rattle.std.specs.Io.KnownBytes.{Appends}
use Rattle.std.proofs.KnownBytes.{Appends-nil, Appends-trans}
use Rattle.std.proofs.lemmas.List.Folds.{concat-append}
use Rattle.st_http.specs.First.{First}
use Rattle.st_connection.specs.Connection.{Run}
use Rattle.st_connection.specs.inner.Stages.{Whole, Spoken}
use Rattle.st_connection.proofs.Reading.{closed_join, begins_grows, begins_join, begins_none}

pub run_join : {S : Type 0} (step : S → First → List ℕ → S → Type 0) (old mid new : S) (items others : List First) (answers replies : List (List ℕ))
    → Run step old items answers mid → Run step mid others replies new → Run step old (items ++ others) (answers ++ replies) new
run_join step old mid new [] others [] replies h k = subst (λ (n : _). Run step n others replies new) h k
run_join step old mid new [] others (a ∷ answers) replies h k = absurd h
run_join step old mid new (i ∷ items) others [] replies h k = absurd h
run_join step old mid new (i ∷ items) others (a ∷ answers) replies h k = (h.0, h.1, run_join step h.0 mid new items others answers replies h.2 k)

module _ {S : Type 0} (step : S → First → List ℕ → S → Type 0) where
  -- nothing yet
  abbrev pub whole_none : (old : S) (text : List ℕ) (h : Option (List ℕ)) (w : ℕ) → Whole step false old old text text h h w w
  whole_none old text h w = record {
    items = [];
    answers = [];
    begins = begins_none text;
    ends = refl;
    run = refl;
    wrote = Appends-nil h;
    counted = omega arith;
    few = omega arith;
  }

  module _ (old mid new : S) (text rest : List ℕ) (ho hm hn : Option (List ℕ)) (wo wm wn : ℕ) (a : Whole step false old mid text rest ho hm wo wm) where
    -- one stretch after another
    abbrev pub whole_join : (closed : Bool) (end : List ℕ) → Whole step closed mid new rest end hm hn wm wn → Whole step closed old new text end ho hn wo wn
    whole_join closed end b = record {
      items = a.items ++ b.items;
      answers = a.answers ++ b.answers;
      begins = begins_join text a.items rest b.items end a.begins a.ends b.begins;
      ends = closed_join a.items b.items a.ends ∙ b.ends;
      run = run_join step old mid new a.items b.items a.answers b.answers a.run b.run;
      wrote = subst (λ (s : List ℕ). Appends ho hn s) (sym (concat-append a.answers b.answers)) (Appends-trans ho hm hn (concat a.answers) (concat b.answers) a.wrote b.wrote);
      counted = omega (arith, a.counted, b.counted, ap length (concat-append a.answers b.answers), length-append (concat a.answers) (concat b.answers));
      few = omega (arith, a.few, b.few, ap length (concat-append a.answers b.answers), length-append (concat a.answers) (concat b.answers), length-append a.items b.items);
    }

  -- the same of a text that more bytes come after
  abbrev pub whole_grows : (old new : S) (text rest after : List ℕ) (ho hn : Option (List ℕ)) (wo wn : ℕ) → Whole step false old new text rest ho hn wo wn
      → Whole step false old new (text ++ after) (rest ++ after) ho hn wo wn
  whole_grows old new text rest after ho hn wo wn a = record {
    items = a.items;
    answers = a.answers;
    begins = begins_grows text a.items rest after a.begins a.ends;
    ends = a.ends;
    run = a.run;
    wrote = a.wrote;
    counted = a.counted;
    few = a.few;
  }

pub spoken_join : {S : Type 0} (step : S → First → List ℕ → S → Type 0) (old mid new : S) (text rest : List ℕ) (ho hm hn : Option (List ℕ)) (wo wm wn : ℕ)
    → Whole step false old mid text rest ho hm wo wm → (end : List ℕ) (told : Bool) → Spoken step mid new rest end told hm hn wm wn
    → Spoken step old new text end told ho hn wo wn
spoken_join step old mid new text rest ho hm hn wo wm wn a end told b = record {
  held = b.held;
  written = b.written;
  whole = whole_join step old mid new text rest ho hm b.held wo wm b.written a false end b.whole;
  wrote = b.wrote;
  counted = b.counted;
}
