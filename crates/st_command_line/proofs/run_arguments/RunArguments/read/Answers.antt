use Rattle.std.proofs.Common.{ap, refl, sym, subst, [], ◌∙◌, codes, map, string_bytes}
use Rattle.std.specs.Prelude.{option_map, unwrap_or}
use Rattle.std.proofs.lemmas.Result.{err_from_is_err_and}
use Rattle.clap.specs.Words.{all_of, first_of, found_of}
use Rattle.clap.proofs.WalkLemmas.{first_value-rows, raw_values-rows}
use Rattle.st_command_line.specs.Common.{RefusesWords}
use Rattle.st_command_line.specs.inner.Commands.{says_true}
use Rattle.st_command_line.specs.RunArguments.{run_command}
use Rattle.st_command_line.proofs.Refusing.{names_given}
use Rattle.st_command_line.proofs.Wanting.{file_is}
use Rattle.st_command_line.proofs.run_arguments.RunArguments.read.Goals as goal

pub returns-in_err-check_store-clause-err : goal.returns-in_err-check_store-clause-err
returns-in_err-check_store-clause-err c =
    let words = map string_bytes c.args.words.now in
    let p = err_from_is_err_and c.from_residual-in_err-check_store.result c.from_residual-in_err-check_store.ensures.1 in
    rw p.1 (subst (RefusesWords run_command words) (sym p.2) (c.in_err-check_store.ensures.err run_command words c.in_ok-matches.ensures.ok))

pub returns-clause-ok : goal.returns-clause-ok
returns-clause-ok c =
    let words = map string_bytes c.args.words.now in
    let found = found_of c.in_ok-matches.matches in
    let parsed = c.in_ok-matches.ensures.ok in
    record {
      root = record {
        whole = parsed.whole;
        digits_are = sym (ap (first_of (codes "root")) parsed.rows_are) ∙ (sym (first_value-rows found (codes "root")) ∙ (sym c.get_str.ensures ∙ ap (option_map (λ s. s.now)) c.in-Some.is));
        names_are = ap (λ rows. unwrap_or (all_of (codes "NAME") rows) []) (sym parsed.rows_are)
            ∙ (ap (λ o. unwrap_or o []) (sym (raw_values-rows found (codes "NAME")))
            ∙ (names_given _ c.get_strs.result _ c.unwrap_or-names.result c.get_strs.ensures c.unwrap_or-names.ensures refl
            ∙ ap (map (λ name. name.now)) (sym c.in_ok-from_slice.ensures.items)));
      };
      store_is = ap (first_of (codes "store")) (sym parsed.rows_are) ∙ (sym (first_value-rows found (codes "store")) ∙ sym c.get_str-store.ensures);
      compacts_is = ap says_true (sym (file_is run_command words (codes "compact") c.in_ok-matches.matches parsed)) ∙ sym c.flag-compacts.ensures;
      stored = c.in_ok-check_store.ensures.ok run_command words parsed;
    }
