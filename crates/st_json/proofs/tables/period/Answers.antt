use Rattle.std.proofs.Common.{refl}
use Rattle.std.proofs.lemmas.Result.{err_from_is_err_and}
use Rattle.st_json.specs.Needs.{given}
use Rattle.st_json.proofs.Chosen.{given_then, denied_then}
use Rattle.st_json.proofs.tables.period.Goals as goal

pub returns-in_err-period : goal.returns-in_err-period
returns-in_err-period g c =
    let p = err_from_is_err_and c.from_residual.result c.from_residual.ensures.1 in
    denied_then _ _ _ _ _ c.in_err-period.ensures p.1 p.2

pub returns-in_err-table : goal.returns-in_err-table
returns-in_err-table g c =
    let p = err_from_is_err_and c.from_residual-in_err-table.result c.from_residual-in_err-table.ensures.1 in
    given_then _ _ c.in_ok-period.period _ c.in_ok-period.ensures (denied_then _ _ _ _ _ c.in_err-table.ensures p.1 p.2)

pub returns : goal.returns
returns g c = given c.in_ok-period.period _ c.in_ok-period.ensures (given c.in_ok-table.table _ c.in_ok-table.ensures refl)
