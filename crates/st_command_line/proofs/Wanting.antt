-- Words that want a file, by what their matches have.
use Rattle.std.specs.Prelude.{Option, Some, None, Result, Ok, Err, IsSome, OnOk, option_map}
use Rattle.std.specs.Borrow.{Bor}
use Rattle.std.proofs.lemmas.Bool.{false≢true}
use Rattle.std.proofs.Common.{ap, ◌≡◌, ◌∙◌, ◌⊎◌, List, codes, true, false, inl, inr, refl, sym, subst}
use Rattle.clap.specs.Words.{App, first_of, first_value, found_of}
use Rattle.clap.specs.declared.parser.matches.ArgMatches.{ArgMatches}
use Rattle.clap.proofs.WalkLemmas.{first_value-rows}
use Rattle.st_text.specs.Texts.{Text}
use Rattle.st_command_line.specs.Common.{WantsAStore, file_of}
use Rattle.st_command_line.specs.inner.Commands.{IsParsed, says_true}

-- a file of the words is that of their matches
pub file_is : (app : App) (words : List Text) (id : Text) (matches : ArgMatches) → IsParsed app words matches
    → first_value (found_of matches) id ≡ file_of id app words
file_is app words id matches parsed = first_value-rows (found_of matches) id ∙ ap (first_of id) parsed.rows_are

pub wants : (app : App) (words : List Text) (matches : ArgMatches) → IsParsed app words matches
    → (says_true (first_value (found_of matches) (codes "compact")) ≡ true) ⊎ IsSome (first_value (found_of matches) (codes "copy"))
    → WantsAStore app words
wants app words matches parsed (inl given) = inl (ap says_true (sym (file_is app words (codes "compact") matches parsed)) ∙ given)
wants app words matches parsed (inr given) = inr (subst IsSome (file_is app words (codes "copy") matches parsed) given)

pub wants_none : (app : App) (words : List Text) (matches : ArgMatches) → IsParsed app words matches
    → (says_true (first_value (found_of matches) (codes "compact")) ≡ false) × (first_value (found_of matches) (codes "copy") ≡ None)
    → WantsAStore app words → ⊥
wants_none app words matches parsed none (inl given) =
    false≢true (sym none.0 ∙ (ap says_true (file_is app words (codes "compact") matches parsed) ∙ given))
wants_none app words matches parsed none (inr given) =
    false≢true (subst IsSome (sym (file_is app words (codes "copy") matches parsed) ∙ none.1) given)

-- what the matches give
pub given : (found : Option (Bor Text)) (text : Bor Text) (told : Option Text) → found ≡ Some text → option_map (λ s. s.now) found ≡ told → IsSome told
given found text told is by = subst IsSome by (subst (λ o. IsSome (option_map (λ (s : Bor Text). s.now) o)) (sym is) refl)

-- what holds in any case holds at success
pub on_ok : {T E P : Type 0} (r : Result T E) → P → OnOk r P
on_ok (Ok x) h = h
on_ok (Err e) h = tt
