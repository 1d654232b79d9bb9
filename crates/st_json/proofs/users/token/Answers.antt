use Rattle.std.proofs.Common.{refl}
use Rattle.std.proofs.lemmas.Result.{err_from_is_err_and}
use Rattle.st_json.specs.Needs.{given}
use Rattle.st_json.proofs.Chosen.{given_then, denied_then}
use Rattle.st_json.proofs.users.token.Goals as goal

pub returns-in_err-digest : goal.returns-in_err-digest
returns-in_err-digest g c =
    let p = err_from_is_err_and c.from_residual.result c.from_residual.ensures.1 in
    denied_then _ _ _ _ _ c.in_err-digest.ensures p.1 p.2

pub returns-in_err-user : goal.returns-in_err-user
returns-in_err-user g c =
    let p = err_from_is_err_and c.from_residual-in_err-user.result c.from_residual-in_err-user.ensures.1 in
    given_then _ _ c.in_ok-digest.digest _ c.in_ok-digest.ensures (denied_then _ _ _ _ _ c.in_err-user.ensures p.1 p.2)

pub returns : goal.returns
returns g c = given c.in_ok-digest.digest _ c.in_ok-digest.ensures (given c.in_ok-user.user _ c.in_ok-user.ensures refl)
