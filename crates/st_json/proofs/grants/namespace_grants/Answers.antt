use Rattle.std.proofs.Common.{refl}
use Rattle.std.proofs.lemmas.Result.{err_from_is_err_and}
use Rattle.st_json.specs.Needs.{given}
use Rattle.st_json.proofs.Chosen.{denied_then}
use Rattle.st_json.proofs.grants.namespace_grants.Goals as goal

pub returns-in_err-namespace : goal.returns-in_err-namespace
returns-in_err-namespace g c =
    let p = err_from_is_err_and c.from_residual.result c.from_residual.ensures.1 in
    denied_then _ _ _ _ _ c.in_err-namespace.ensures p.1 p.2

pub returns : goal.returns
returns g c = given c.in_ok-namespace.namespace _ c.in_ok-namespace.ensures refl
