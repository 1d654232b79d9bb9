use Rattle.std.proofs.Common.{inr, refl, subst, sym}
use Rattle.std.proofs.lemmas.Result.{err_from_is_err_and}
use Rattle.st_command.specs.Opening.{IsOfStore}
use Rattle.st_server.proofs.kept.serve_kept.Goals as goal

pub returns-in_err-both : goal.returns-in_err-both
returns-in_err-both g c =
    let p = err_from_is_err_and c.from_residual-in_err-both.result c.from_residual-in_err-both.ensures.1 in
    rw p.1 (inr (record { fault = p.0; why = subst IsOfStore (sym p.2) tt; status_is = refl; idle = refl }))
