use Rattle.std.proofs.Common.{sym, subst}
use Rattle.std.proofs.lemmas.Result.{err_from_is_err_and}
use Rattle.st_command_line.specs.ServedArguments.{RefusesServedWords, served_command}
use Rattle.st_command_line.proofs.Numbers.{widens}
use Rattle.st_command_line.proofs.Wanting.{on_ok}
use Rattle.st_command_line.proofs.served_arguments.check_wants.Goals as goal

pub returns-in_err-check_store-clause-err : goal.returns-in_err-check_store-clause-err
returns-in_err-check_store-clause-err c =
    let p = err_from_is_err_and c.from_residual.result c.from_residual.ensures.1 in
    rw p.1 (λ words parsed. subst (RefusesServedWords words) (sym p.2) (widens words _ (c.in_err-check_store.ensures.err served_command words parsed)))

pub returns-in_err-check_listen-clause-err : goal.returns-in_err-check_listen-clause-err
returns-in_err-check_listen-clause-err c =
    let p = err_from_is_err_and c.from_residual-in_err-check_listen.result c.from_residual-in_err-check_listen.ensures.1 in
    rw p.1 (λ words parsed. subst (RefusesServedWords words) (sym p.2) (c.in_err-check_listen.ensures.err words parsed))

pub returns-clause-listen : goal.returns-clause-listen
returns-clause-listen c = on_ok c.check_copy.result c.in_ok-check_listen.ensures.ok

pub returns-clause-store : goal.returns-clause-store
returns-clause-store c = on_ok c.check_copy.result (λ words parsed. c.in_ok-check_store.ensures.ok served_command words parsed)
