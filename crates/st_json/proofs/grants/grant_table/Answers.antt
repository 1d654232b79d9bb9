use Rattle.std.proofs.Common.{refl}
use Rattle.std.proofs.lemmas.Result.{err_from_is_err_and}
use Rattle.st_json.specs.Needs.{given}
use Rattle.st_json.proofs.Chosen.{given_then, denied_then}
use Rattle.st_json.proofs.grants.grant_table.Goals as goal

pub returns-in_err-text : goal.returns-in_err-text
returns-in_err-text g c =
    let p = err_from_is_err_and c.from_residual.result c.from_residual.ensures.1 in
    denied_then _ _ _ _ _ c.in_err-text.ensures p.1 p.2

pub returns-in_err-permission : goal.returns-in_err-permission
returns-in_err-permission g c =
    let p = err_from_is_err_and c.from_residual-in_err-permission.result c.from_residual-in_err-permission.ensures.1 in
    given_then _ _ c.in_ok-text.text.now _ c.in_ok-text.ensures (denied_then _ _ _ _ _ c.in_err-permission.ensures p.1 p.2)

pub returns-in_err-table : goal.returns-in_err-table
returns-in_err-table g c =
    let p = err_from_is_err_and c.from_residual-in_err-table.result c.from_residual-in_err-table.ensures.1 in
    given_then _ _ c.in_ok-text.text.now _ c.in_ok-text.ensures (given_then _ _ c.in_ok-permission.permission _ c.in_ok-permission.ensures (denied_then _ _ _ _ _ c.in_err-table.ensures p.1 p.2))

pub returns-in_err-user : goal.returns-in_err-user
returns-in_err-user g c =
    let p = err_from_is_err_and c.from_residual-in_err-user.result c.from_residual-in_err-user.ensures.1 in
    given_then _ _ c.in_ok-text.text.now _ c.in_ok-text.ensures
    (given_then _ _ c.in_ok-permission.permission _ c.in_ok-permission.ensures
    (given_then _ _ c.in_ok-table.table _ c.in_ok-table.ensures (denied_then _ _ _ _ _ c.in_err-user.ensures p.1 p.2)))

pub returns : goal.returns
returns g c = given c.in_ok-text.text.now _ c.in_ok-text.ensures
    (given c.in_ok-permission.permission _ c.in_ok-permission.ensures
    (given c.in_ok-table.table _ c.in_ok-table.ensures (given c.in_ok-user.user _ c.in_ok-user.ensures refl)))
