-- The command lines: what the code builds, what it reads, and what it refuses.
use Rattle.std.specs.Prelude.{IfErr, IfOk, Option, Some, None, Result, Ok, Err, map, option_map, unwrap_or}
use Rattle.std.specs.Borrow.{Bor}
use Rattle.std.specs.List.{All, fold, slice_index_or}
use Rattle.std.proofs.lemmas.List.Elements.{All-head, All-tail}
use Rattle.std.proofs.Common.{ap, ◌≡◌, ◌∙◌, ◌<◌, ◌&&◌, ℕ, Bool, T, not, false, length, List, [], ◌∷◌, true, inl, inr, refl, sym, subst, zero, suc, arith}
use Rattle.std.proofs.lemmas.Bool.{and_parts, not-true, false≢true}
use Rattle.std.specs.Str.{bytes_eq}
use Rattle.clap.specs.Built.{AddsArg, AddsInTurn, FitsChain, HasDistinctIds, IsPlainArg}
use Rattle.clap.specs.declared.builder.arg.Arg.{Arg}
use Rattle.clap.specs.Words.{App, HasKind, Rule, IsAmong, app_of, fault_of, kind_of, rule_of, with_rule}
use Rattle.clap.specs.declared.builder.command.Command.{Command}
use Rattle.clap.specs.declared.error.Error.{Error}
use Rattle.clap.specs.declared.error.kind.ErrorKind.{ErrorKind}
use Rattle.clap.specs.declared.error.kind.ErrorKind.TheVariants.{OutOfMemory}
use Rattle.st_text.specs.Texts.{Text}
use Rattle.st_command_line.specs.Common.{RefusesWords}
use Rattle.st_command_line.specs.inner.Commands.{as_fault, is_own}

-- what follows from a fact of the value, or of the error
pub if_ok : {T E : Type 0} (P Q : T → Type 0) (r : Result T E) → ((x : T) → P x → Q x) → IfOk r P → IfOk r Q
if_ok P Q (Ok x) f h = f x h
if_ok P Q (Err e) f h = tt

pub if_err : {T E : Type 0} (P Q : E → Type 0) (r : Result T E) → ((e : E) → P e → Q e) → IfErr r P → IfErr r Q
if_err P Q (Ok x) f h = tt
if_err P Q (Err e) f h = f e h

-- a command with each of these rules added in turn
abbrev pub with_rules : App → List Rule → App
with_rules app rules = fold with_rule app rules

-- a command with arguments added in turn is that of their rules
pub chained : (old new : Command) (args : List Arg) (app : App) → app_of old ≡ app → All FitsChain args → AddsInTurn AddsArg old args new
    → app_of new ≡ with_rules app (map rule_of args)
chained old new [] app is fit chain = ap app_of (sym chain) ∙ is
chained old new (a ∷ args) app is fit chain =
    chained chain.0 new args (with_rule app (rule_of a)) (chain.1.shape (All-head FitsChain a args fit).1 ∙ ap (λ x. with_rule x (rule_of a)) is)
    (All-tail FitsChain a args fit) chain.2

named : (app : App) (words : List Text) (kind : ErrorKind) (error : Error) → IsAmong (kind_of error) (fault_of app words) → RefusesWords app words (as_fault kind error)
named app words OutOfMemory error h = tt
named app words _ error h = h

pub refused : (app : App) (words : List Text) (error : Error) → HasKind (fault_of app words) error → RefusesWords app words (as_fault (kind_of error) error)
refused app words error (inl wanting) = subst (λ kind. RefusesWords app words (as_fault kind error)) (sym wanting) tt
refused app words error (inr h) = named app words (kind_of error) error h

-- whether a text is none of these
abbrev is_apart : Text → List Text → Bool
is_apart id [] = true
is_apart id (other ∷ ids) = not (bytes_eq id other) && (not (bytes_eq other id) && is_apart id ids)

abbrev pub are_distinct : List Text → Bool
are_distinct [] = true
are_distinct (id ∷ ids) = is_apart id ids && are_distinct ids

abbrev pub ids_of : List Arg → List Text
ids_of xs = map (λ (a : Arg). a.id.now) xs

wrong : (t : Bool) → not t ≡ true → t ≡ true → ⊥
wrong t n h = false≢true (sym (not-true t n) ∙ h)

apart_before : (id : Text) (xs : List Arg) (k : ℕ) (d : Arg) → is_apart id (ids_of xs) ≡ true → k < length xs → bytes_eq id (slice_index_or xs k d).id.now ≡ true → ⊥
apart_before id [] k d apart low same = absurd (omega (arith, low))
apart_before id (x ∷ xs) zero d apart low same = wrong _ (and_parts _ _ apart).0 same
apart_before id (x ∷ xs) (suc k) d apart low same = apart_before id xs k d (and_parts _ _ (and_parts _ _ apart).1).1 (omega (arith, low)) same

apart_after : (id : Text) (xs : List Arg) (k : ℕ) (d : Arg) → is_apart id (ids_of xs) ≡ true → k < length xs → bytes_eq (slice_index_or xs k d).id.now id ≡ true → ⊥
apart_after id [] k d apart low same = absurd (omega (arith, low))
apart_after id (x ∷ xs) zero d apart low same = wrong _ (and_parts _ _ (and_parts _ _ apart).1).0 same
apart_after id (x ∷ xs) (suc k) d apart low same = apart_after id xs k d (and_parts _ _ (and_parts _ _ apart).1).1 (omega (arith, low)) same

-- arguments whose ids are no two the same
pub distinct : (xs : List Arg) → are_distinct (ids_of xs) ≡ true → HasDistinctIds xs
distinct [] is j k d e low high same = absurd (omega (arith, low))
distinct (x ∷ xs) is zero zero d e low high same = refl
distinct (x ∷ xs) is zero (suc k) d e low high same = absurd (apart_before x.id.now xs k d (and_parts _ _ is).0 (omega (arith, high)) same)
distinct (x ∷ xs) is (suc j) zero d e low high same = absurd (apart_after x.id.now xs j e (and_parts _ _ is).0 (omega (arith, low)) same)
distinct (x ∷ xs) is (suc j) (suc k) d e low high same = ap suc (distinct xs (and_parts _ _ is).1 j k d e (omega (arith, low)) (omega (arith, high)) same)

not_own : false ≡ true → ⊥
not_own h = subst T (sym h) tt

pub fits : (a : Arg) (id : Text) → a.id.now ≡ id → is_own id ≡ true → IsPlainArg a → a.global ≡ false → FitsChain a
fits a id is own plain local = (
  plain,
  local,
  λ none. absurd (not_own (subst (λ t. is_own t ≡ true) (sym is ∙ none) own)),
  λ auto. elim auto [
    | inl help ↦ absurd (not_own (subst (λ t. is_own t ≡ true) (sym is ∙ help) own))
    | inr version ↦ absurd (not_own (subst (λ t. is_own t ≡ true) (sym is ∙ version) own))
  ],
)

-- the names where there are any, and else none
pub names_given : (told : Option (List Text)) (names : Option (Bor (List (Bor Text)))) (none given : Bor (List (Bor Text)))
    → option_map (λ s. map (λ v. v.now) s.now) names ≡ told → given ≡ unwrap_or names none → none.now ≡ []
    → unwrap_or told [] ≡ map (λ v. v.now) given.now
names_given told None none given is by empty = ap (λ o. unwrap_or o []) (sym is) ∙ sym (ap (λ s. map (λ (v : Bor Text). v.now) s.now) by ∙ ap (map (λ (v : Bor Text). v.now)) empty)
names_given told (Some s) none given is by empty = ap (λ o. unwrap_or o []) (sym is) ∙ sym (ap (λ s. map (λ (v : Bor Text). v.now) s.now) by)
