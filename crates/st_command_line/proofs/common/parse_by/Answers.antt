use Rattle.std.proofs.Common.{ap, sym, subst, ◌≡◌, ◌∙◌, map, string_bytes, true}
use Rattle.std.proofs.lemmas.Bool.{and_parts}
use Rattle.std.proofs.lemmas.Result.{err_from_is_err_and}
use Rattle.clap.specs.Words.{HasKind, fault_of, is_simple, is_simple_and_free, matches_of}
use Rattle.st_command_line.specs.Common.{RefusesWords}
use Rattle.st_command_line.proofs.Refusing.{refused}
use Rattle.st_command_line.proofs.common.parse_by.Goals as goal

pub returns-clause-ok : goal.returns-clause-ok
returns-clause-ok c = λ app builds.
    let words = map string_bytes c.args.words.now in
    let ensures = c.in_ok-try_get_matches_from.ensures in
    let simple : is_simple app ≡ true = (and_parts _ _ builds.free).0 in
    record {
      whole = sym (ap (λ a. fault_of a words) builds.is) ∙ ensures.kinds (ap is_simple_and_free builds.is ∙ builds.free);
      rows_are = (ensures.matches (ap is_simple builds.is ∙ simple)).0 ∙ ap (λ a. matches_of a words) builds.is;
    }

pub returns-clause-root : goal.returns-clause-root
returns-clause-root c = λ app builds. builds.root _ c.in_ok-try_get_matches_from.ensures.parsed

pub returns-in_err-try_get_matches_from-clause-err : goal.returns-in_err-try_get_matches_from-clause-err
returns-in_err-try_get_matches_from-clause-err c =
    let words = map string_bytes c.args.words.now in
    let fault = c.from_residual in
    let p = err_from_is_err_and fault.result fault.ensures.1 in
    let error = c.in_err-try_get_matches_from.field-0.0 in
    rw p.1 (λ app builds.
    let told = c.in_err-try_get_matches_from.ensures.kinds (ap is_simple_and_free builds.is ∙ builds.free) in
    subst (RefusesWords app words) (sym p.2) (refused app words error (subst (λ a. HasKind (fault_of a words) error) builds.is told)))
