use Rattle.std.proofs.Common.{refl}
use Rattle.std.proofs.lemmas.Result.{err_from_is_err_and}
use Rattle.serde_json.specs.View.{items_view}
use Rattle.st_json.specs.Needs.{given}
use Rattle.st_json.specs.inner.Parts.{texts_among}
use Rattle.st_json.proofs.Chosen.{given_then, denied_then}
use Rattle.st_json.proofs.grids.grid.Goals as goal

pub returns-in_err-bounds : goal.returns-in_err-bounds
returns-in_err-bounds g c =
    let p = err_from_is_err_and c.from_residual.result c.from_residual.ensures.1 in
    denied_then _ _ _ _ _ c.in_err-bounds.ensures p.1 p.2

pub returns-in_err-texts : goal.returns-in_err-texts
returns-in_err-texts g c =
    let p = err_from_is_err_and c.from_residual-in_err-texts.result c.from_residual-in_err-texts.ensures.1 in
    given_then _ _ c.in_ok-bounds.bounds _ c.in_ok-bounds.ensures (denied_then _ _ _ _ _ c.in_err-texts.ensures p.1 p.2)

pub returns-in_err-columns : goal.returns-in_err-columns
returns-in_err-columns g c =
    let p = err_from_is_err_and c.from_residual-in_err-columns.result c.from_residual-in_err-columns.ensures.1 in
    given_then _ _ c.in_ok-bounds.bounds _ c.in_ok-bounds.ensures
    (given_then _ _ (texts_among (items_view c.in_ok-texts.texts.now)) _ c.in_ok-texts.ensures
    (denied_then _ _ _ _ _ c.in_err-columns.ensures p.1 p.2))

pub returns-in_err-lines : goal.returns-in_err-lines
returns-in_err-lines g c =
    let p = err_from_is_err_and c.from_residual-in_err-lines.result c.from_residual-in_err-lines.ensures.1 in
    given_then _ _ c.in_ok-bounds.bounds _ c.in_ok-bounds.ensures
    (given_then _ _ (texts_among (items_view c.in_ok-texts.texts.now)) _ c.in_ok-texts.ensures
    (given_then _ _ c.in_ok-columns.columns _ c.in_ok-columns.ensures (denied_then _ _ _ _ _ c.in_err-lines.ensures p.1 p.2)))

pub returns-in_err-query : goal.returns-in_err-query
returns-in_err-query g c =
    let p = err_from_is_err_and c.from_residual-in_err-query.result c.from_residual-in_err-query.ensures.1 in
    given_then _ _ c.in_ok-bounds.bounds _ c.in_ok-bounds.ensures
    (given_then _ _ (texts_among (items_view c.in_ok-texts.texts.now)) _ c.in_ok-texts.ensures
    (given_then _ _ c.in_ok-columns.columns _ c.in_ok-columns.ensures
    (given_then _ _ c.in_ok-lines.lines _ c.in_ok-lines.ensures (denied_then _ _ _ _ _ c.in_err-query.ensures p.1 p.2))))

pub returns-in_err-table : goal.returns-in_err-table
returns-in_err-table g c =
    let p = err_from_is_err_and c.from_residual-in_err-table.result c.from_residual-in_err-table.ensures.1 in
    given_then _ _ c.in_ok-bounds.bounds _ c.in_ok-bounds.ensures
    (given_then _ _ (texts_among (items_view c.in_ok-texts.texts.now)) _ c.in_ok-texts.ensures
    (given_then _ _ c.in_ok-columns.columns _ c.in_ok-columns.ensures
    (given_then _ _ c.in_ok-lines.lines _ c.in_ok-lines.ensures
    (given_then _ _ c.in_ok-query.query _ c.in_ok-query.ensures (denied_then _ _ _ _ _ c.in_err-table.ensures p.1 p.2)))))

pub returns-in_err-auths : goal.returns-in_err-auths
returns-in_err-auths g c =
    let p = err_from_is_err_and c.from_residual-in_err-auths.result c.from_residual-in_err-auths.ensures.1 in
    given_then _ _ c.in_ok-bounds.bounds _ c.in_ok-bounds.ensures
    (given_then _ _ (texts_among (items_view c.in_ok-texts.texts.now)) _ c.in_ok-texts.ensures
    (given_then _ _ c.in_ok-columns.columns _ c.in_ok-columns.ensures
    (given_then _ _ c.in_ok-lines.lines _ c.in_ok-lines.ensures
    (given_then _ _ c.in_ok-query.query _ c.in_ok-query.ensures
    (given_then _ _ c.in_ok-table.table _ c.in_ok-table.ensures (denied_then _ _ _ _ _ c.in_err-auths.ensures p.1 p.2))))))

pub returns : goal.returns
returns g c = given c.in_ok-bounds.bounds _ c.in_ok-bounds.ensures
    (given (texts_among (items_view c.in_ok-texts.texts.now)) _ c.in_ok-texts.ensures
    (given c.in_ok-columns.columns _ c.in_ok-columns.ensures
    (given c.in_ok-lines.lines _ c.in_ok-lines.ensures
    (given c.in_ok-query.query _ c.in_ok-query.ensures
    (given c.in_ok-table.table _ c.in_ok-table.ensures (given c.in_ok-auths.auths _ c.in_ok-auths.ensures refl))))))
