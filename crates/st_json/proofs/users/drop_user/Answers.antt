use Rattle.std.proofs.Common.{refl}
use Rattle.std.proofs.lemmas.Result.{err_from_is_err_and}
use Rattle.st_json.specs.Needs.{given}
use Rattle.st_json.proofs.Chosen.{denied_then}
use Rattle.st_json.proofs.users.drop_user.Goals as goal

pub returns-in_err-user : goal.returns-in_err-user
returns-in_err-user g c =
    let p = err_from_is_err_and c.from_residual.result c.from_residual.ensures.1 in
    denied_then _ _ _ _ _ c.in_err-user.ensures p.1 p.2

pub returns : goal.returns
returns g c = given c.in_ok-user.user _ c.in_ok-user.ensures refl
