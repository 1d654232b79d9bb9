use Rattle.std.proofs.Common.{refl}
use Rattle.std.proofs.lemmas.Result.{err_from_is_err_and}
use Rattle.serde_json.specs.View.{view}
use Rattle.st_http.specs.declared.routes.Endpoint.TheVariants as endpoints
use Rattle.st_json.specs.Needs.{given}
use Rattle.st_json.specs.Bodies.{Made}
use Rattle.st_json.proofs.Chosen.{given_then, denied_then, no_memory}
use Rattle.st_json.proofs.rows.delete.Goals as goal

pub returns-in_err-id : goal.returns-in_err-id
returns-in_err-id g c =
    let p = err_from_is_err_and c.from_residual.result c.from_residual.ensures.1 in
    denied_then _ _ _ _ _ c.in_err-id.ensures.value p.1 p.2

pub returns-in_err-text : goal.returns-in_err-text
returns-in_err-text g c =
    let p = err_from_is_err_and c.from_residual-in_err-text.result c.from_residual-in_err-text.ensures.1 in
    given_then _ _ c.in_ok-id.id.now _ c.in_ok-id.ensures.value (denied_then _ _ _ _ _ c.in_err-text.ensures p.1 p.2)

pub returns-in_err-label : goal.returns-in_err-label
returns-in_err-label g c =
    let p = err_from_is_err_and c.from_residual-in_err-label.result c.from_residual-in_err-label.ensures.1 in
    given_then _ _ c.in_ok-id.id.now _ c.in_ok-id.ensures.value (given_then _ _ c.in_ok-text.text.now _ c.in_ok-text.ensures (denied_then _ _ _ _ _ c.in_err-label.ensures p.1 p.2))

pub returns-in_err-table : goal.returns-in_err-table
returns-in_err-table g c =
    let p = err_from_is_err_and c.from_residual-in_err-table.result c.from_residual-in_err-table.ensures.1 in
    given_then _ _ c.in_ok-id.id.now _ c.in_ok-id.ensures.value
    (given_then _ _ c.in_ok-text.text.now _ c.in_ok-text.ensures
    (given_then _ _ c.in_ok-label.label _ c.in_ok-label.ensures (denied_then _ _ _ _ _ c.in_err-table.ensures p.1 p.2)))

pub returns : goal.returns
returns g c = given c.in_ok-id.id.now _ c.in_ok-id.ensures.value
    (given c.in_ok-text.text.now _ c.in_ok-text.ensures
    (given c.in_ok-label.label _ c.in_ok-label.ensures (given c.in_ok-table.table _ c.in_ok-table.ensures (rw c.in_ok-owned.ensures refl))))

pub returns-in_err-owned : goal.returns-in_err-owned
returns-in_err-owned g c =
    let p = err_from_is_err_and c.from_residual-in_err-owned.result c.from_residual-in_err-owned.ensures.1 in
    no_memory (Made endpoints.Delete c.args.name.now (view c.args.object.now)) _ _ p.1 p.2
