use Rattle.std.proofs.Common.{◌≡◌, ◌++◌, ◌∷◌, ◌<◌, ℕ, suc, List, [], map, drop, length, get_or, string_bytes, ap, sym, ◌∙◌, append_assoc, append-nil, arith, drop-cons}
use Rattle.std.specs.Borrow.{Bor}
use Rattle.std.proofs.lemmas.List.{drop_all}
use Rattle.st_text.specs.Texts.{Text}
use Rattle.st_command.specs.Opening.{sized_name, names_text}
use Rattle.st_command.proofs.opening.push_names.Goals as goal

abbrev texts : List (Bor Text) → List Text
texts names = map (λ name. name.now) names

pushed : (before after all name : Text) (names : List Text) → before ++ names_text (name ∷ names) ≡ all → after ≡ before ++ sized_name name
    → after ++ names_text names ≡ all
unfolding names_text
pushed before after all name names whole is = rw is (append_assoc before (sized_name name) (names_text names) ∙ whole)

step : (before after all : Text) (names : List (Bor Text)) (i j : ℕ) (d : Bor Text) → i < length names
    → j ≡ suc i → before ++ names_text (texts (drop i names)) ≡ all → after ≡ before ++ sized_name (get_or names i d).now
    → after ++ names_text (texts (drop j names)) ≡ all
step before after all names i j d within next whole is =
    rw next (pushed before after all (get_or names i d).now (texts (drop (suc i) names)) (rw (drop-cons names i d within) at whole) is)

no_more : (before all : Text) (names : List Text) → names ≡ [] → before ++ names_text names ≡ all → before ≡ all
unfolding names_text
no_more before all names none whole = sym (append-nil before) ∙ (rw none at whole)

pub loop-name-preserved : goal.loop-name-preserved
loop-name-preserved c =
    step (string_bytes c.loop-name.text) (string_bytes c.push_name.new.text) _ c.args.names.now c.loop-name.name-index _ _ c.loop-name-test.true
    (omega arith) c.loop-name.invariant c.in_ok-push_name.ensures

pub returns : goal.returns
returns c =
    no_more (string_bytes c.loop-name.text) _ (texts (drop c.loop-name.name-index c.args.names.now))
    (ap texts (drop_all c.loop-name.name-index c.args.names.now (omega (arith, c.loop-name-test.false)))) c.loop-name.invariant
