use Rattle.std.proofs.Common.{refl}
use Rattle.std.proofs.lemmas.Result.{err_from_is_err_and}
use Rattle.st_json.specs.Needs.{given}
use Rattle.st_json.proofs.Chosen.{given_then, denied_then}
use Rattle.st_json.proofs.plans.plan.Goals as goal

pub returns-in_err-bounds : goal.returns-in_err-bounds
returns-in_err-bounds g c =
    let p = err_from_is_err_and c.from_residual.result c.from_residual.ensures.1 in
    denied_then _ _ _ _ _ c.in_err-bounds.ensures p.1 p.2

pub returns-in_err-budget : goal.returns-in_err-budget
returns-in_err-budget g c =
    let p = err_from_is_err_and c.from_residual-in_err-budget.result c.from_residual-in_err-budget.ensures.1 in
    given_then _ _ c.in_ok-bounds.bounds _ c.in_ok-bounds.ensures (denied_then _ _ _ _ _ c.in_err-budget.ensures p.1 p.2)

pub returns-in_err-query : goal.returns-in_err-query
returns-in_err-query g c =
    let p = err_from_is_err_and c.from_residual-in_err-query.result c.from_residual-in_err-query.ensures.1 in
    given_then _ _ c.in_ok-bounds.bounds _ c.in_ok-bounds.ensures (given_then _ _ c.in_ok-budget.budget _ c.in_ok-budget.ensures (denied_then _ _ _ _ _ c.in_err-query.ensures p.1 p.2))

pub returns-in_err-table : goal.returns-in_err-table
returns-in_err-table g c =
    let p = err_from_is_err_and c.from_residual-in_err-table.result c.from_residual-in_err-table.ensures.1 in
    given_then _ _ c.in_ok-bounds.bounds _ c.in_ok-bounds.ensures
    (given_then _ _ c.in_ok-budget.budget _ c.in_ok-budget.ensures
    (given_then _ _ c.in_ok-query.query _ c.in_ok-query.ensures (denied_then _ _ _ _ _ c.in_err-table.ensures p.1 p.2)))

pub returns : goal.returns
returns g c = given c.in_ok-bounds.bounds _ c.in_ok-bounds.ensures
    (given c.in_ok-budget.budget _ c.in_ok-budget.ensures
    (given c.in_ok-query.query _ c.in_ok-query.ensures (given c.in_ok-table.table _ c.in_ok-table.ensures refl)))
