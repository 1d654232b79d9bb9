use Rattle.std.proofs.Common.{ap, refl, sym, subst, [], ◌∙◌, codes, map, string_bytes}
use Rattle.std.specs.Prelude.{option_map, unwrap_or}
use Rattle.std.proofs.lemmas.Result.{err_from_is_err_and}
use Rattle.clap.specs.Words.{all_of, first_of, found_of}
use Rattle.clap.proofs.WalkLemmas.{first_value-rows, raw_values-rows}
use Rattle.st_command_line.specs.inner.Commands.{says_true}
use Rattle.st_command_line.specs.ServedArguments.{RefusesServedWords, served_command}
use Rattle.st_command_line.proofs.Numbers.{widens}
use Rattle.st_command_line.proofs.Refusing.{names_given}
use Rattle.st_command_line.proofs.Wanting.{file_is}
use Rattle.st_command_line.proofs.served_arguments.ServedArguments.read.Goals as goal

pub returns-in_err-matches-clause-err : goal.returns-in_err-matches-clause-err
returns-in_err-matches-clause-err c =
    let words = map string_bytes c.args.words.now in
    let p = err_from_is_err_and c.from_residual.result c.from_residual.ensures.1 in
    rw p.1 (subst (RefusesServedWords words) (sym p.2) (widens words _ c.in_err-matches.ensures.err))

pub returns-in_err-check_wants-clause-err : goal.returns-in_err-check_wants-clause-err
returns-in_err-check_wants-clause-err c =
    let words = map string_bytes c.args.words.now in
    let p = err_from_is_err_and c.from_residual-in_err-check_wants.result c.from_residual-in_err-check_wants.ensures.1 in
    rw p.1 (subst (RefusesServedWords words) (sym p.2) (c.in_err-check_wants.ensures.err words c.in_ok-matches.ensures.ok))

pub returns-in_err-copy_every-clause-err : goal.returns-in_err-copy_every-clause-err
returns-in_err-copy_every-clause-err c =
    let words = map string_bytes c.args.words.now in
    let p = err_from_is_err_and c.from_residual-in_err-copy_every.result c.from_residual-in_err-copy_every.ensures.1 in
    rw p.1 (subst (RefusesServedWords words) (sym p.2) (c.in_err-copy_every.ensures.err words c.in_ok-matches.ensures.ok))

pub returns-in_err-bind_address-clause-err : goal.returns-in_err-bind_address-clause-err
returns-in_err-bind_address-clause-err c =
    let words = map string_bytes c.args.words.now in
    let p = err_from_is_err_and c.from_residual-in_err-bind_address.result c.from_residual-in_err-bind_address.ensures.1 in
    rw p.1 (subst (RefusesServedWords words) (sym p.2) (c.in_err-bind_address.ensures.err words c.in_ok-matches.ensures.ok))

pub returns-in_err-connections-clause-err : goal.returns-in_err-connections-clause-err
returns-in_err-connections-clause-err c =
    let words = map string_bytes c.args.words.now in
    let p = err_from_is_err_and c.from_residual-in_err-connections.result c.from_residual-in_err-connections.ensures.1 in
    rw p.1 (subst (RefusesServedWords words) (sym p.2) (c.in_err-connections.ensures.err words c.in_ok-matches.ensures.ok))

pub returns-in_err-workers-clause-err : goal.returns-in_err-workers-clause-err
returns-in_err-workers-clause-err c =
    let words = map string_bytes c.args.words.now in
    let p = err_from_is_err_and c.from_residual-in_err-workers.result c.from_residual-in_err-workers.ensures.1 in
    rw p.1 (subst (RefusesServedWords words) (sym p.2) (c.in_err-workers.ensures.err words c.in_ok-matches.ensures.ok))

pub returns-in_err-timeout-clause-err : goal.returns-in_err-timeout-clause-err
returns-in_err-timeout-clause-err c =
    let words = map string_bytes c.args.words.now in
    let p = err_from_is_err_and c.from_residual-in_err-timeout.result c.from_residual-in_err-timeout.ensures.1 in
    rw p.1 (subst (RefusesServedWords words) (sym p.2) (c.in_err-timeout.ensures.err words c.in_ok-matches.ensures.ok))

pub returns-in_err-idle-clause-err : goal.returns-in_err-idle-clause-err
returns-in_err-idle-clause-err c =
    let words = map string_bytes c.args.words.now in
    let p = err_from_is_err_and c.from_residual-in_err-idle.result c.from_residual-in_err-idle.ensures.1 in
    rw p.1 (subst (RefusesServedWords words) (sym p.2) (c.in_err-idle.ensures.err words c.in_ok-matches.ensures.ok))

pub returns-in_err-listen-clause-err : goal.returns-in_err-listen-clause-err
returns-in_err-listen-clause-err c =
    let words = map string_bytes c.args.words.now in
    let p = err_from_is_err_and c.from_residual-in_err-listen.result c.from_residual-in_err-listen.ensures.1 in
    rw p.1 (subst (RefusesServedWords words) (sym p.2) (c.in_err-listen.ensures.err words c.in_ok-matches.ensures.ok))

pub returns-clause-ok : goal.returns-clause-ok
returns-clause-ok c =
    let words = map string_bytes c.args.words.now in
    let found = found_of c.in_ok-matches.matches in
    let parsed = c.in_ok-matches.ensures.ok in
    record {
      root = record {
        whole = parsed.whole;
        digits_are = sym (ap (first_of (codes "root")) parsed.rows_are) ∙ (sym (first_value-rows found (codes "root")) ∙ (sym c.get_str.ensures ∙ ap (option_map (λ s. s.now)) c.in-Some.is));
        names_are = ap (λ rows. unwrap_or (all_of (codes "NAME") rows) []) (sym parsed.rows_are)
            ∙ (ap (λ o. unwrap_or o []) (sym (raw_values-rows found (codes "NAME")))
            ∙ (names_given _ c.get_strs.result _ c.unwrap_or-names.result c.get_strs.ensures c.unwrap_or-names.ensures refl
            ∙ ap (map (λ name. name.now)) (sym c.in_ok-from_slice.ensures.items)));
      };
      bind_address_is = c.in_ok-bind_address.ensures.ok words parsed;
      store_is = ap (first_of (codes "store")) (sym parsed.rows_are) ∙ (sym (first_value-rows found (codes "store")) ∙ sym c.get_str-store.ensures);
      compacts_is = ap says_true (sym (file_is served_command words (codes "compact") c.in_ok-matches.matches parsed)) ∙ sym c.flag-compacts.ensures;
      stored = c.in_ok-check_wants.ensures.store words parsed;
      copy_is = ap (first_of (codes "copy")) (sym parsed.rows_are) ∙ (sym (first_value-rows found (codes "copy")) ∙ sym c.get_str-copy.ensures);
      copy_every_is = c.in_ok-copy_every.ensures.ok words parsed;
      copied = c.in_ok-check_wants.ensures.copy words parsed;
      connections_are = c.in_ok-connections.ensures.ok words parsed;
      workers_are = c.in_ok-workers.ensures.ok words parsed;
      timeout_is = c.in_ok-timeout.ensures.ok words parsed;
      idle_is = c.in_ok-idle.ensures.ok words parsed;
      address_is = c.in_ok-listen.ensures.ok words parsed;
      listening = c.in_ok-check_wants.ensures.listen words parsed;
    }
