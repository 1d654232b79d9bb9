use Rattle.std.proofs.Common.{refl}
use Rattle.std.proofs.lemmas.Result.{err_from_is_err_and}
use Rattle.serde_json.specs.View.{items_view}
use Rattle.st_json.specs.Needs.{given}
use Rattle.st_json.specs.inner.Parts.{texts_among}
use Rattle.st_json.proofs.Chosen.{given_then, denied_then}
use Rattle.st_json.proofs.scans.scan.Goals as goal

pub returns-in_err-bounds : goal.returns-in_err-bounds
returns-in_err-bounds g c =
    let p = err_from_is_err_and c.from_residual.result c.from_residual.ensures.1 in
    denied_then _ _ _ _ _ c.in_err-bounds.ensures p.1 p.2

pub returns-in_err-texts : goal.returns-in_err-texts
returns-in_err-texts g c =
    let p = err_from_is_err_and c.from_residual-in_err-texts.result c.from_residual-in_err-texts.ensures.1 in
    given_then _ _ c.in_ok-bounds.bounds _ c.in_ok-bounds.ensures (denied_then _ _ _ _ _ c.in_err-texts.ensures p.1 p.2)

pub returns-in_err-limit : goal.returns-in_err-limit
returns-in_err-limit g c =
    let p = err_from_is_err_and c.from_residual-in_err-limit.result c.from_residual-in_err-limit.ensures.1 in
    given_then _ _ c.in_ok-bounds.bounds _ c.in_ok-bounds.ensures
    (given_then _ _ (texts_among (items_view c.in_ok-texts.texts.now)) _ c.in_ok-texts.ensures
    (denied_then _ _ _ _ _ c.in_err-limit.ensures p.1 p.2))

pub returns-in_err-after : goal.returns-in_err-after
returns-in_err-after g c =
    let p = err_from_is_err_and c.from_residual-in_err-after.result c.from_residual-in_err-after.ensures.1 in
    given_then _ _ c.in_ok-bounds.bounds _ c.in_ok-bounds.ensures
    (given_then _ _ (texts_among (items_view c.in_ok-texts.texts.now)) _ c.in_ok-texts.ensures
    (given_then _ _ c.in_ok-limit.limit _ c.in_ok-limit.ensures (denied_then _ _ _ _ _ c.in_err-after.ensures p.1 p.2)))

pub returns-in_err-query : goal.returns-in_err-query
returns-in_err-query g c =
    let p = err_from_is_err_and c.from_residual-in_err-query.result c.from_residual-in_err-query.ensures.1 in
    given_then _ _ c.in_ok-bounds.bounds _ c.in_ok-bounds.ensures
    (given_then _ _ (texts_among (items_view c.in_ok-texts.texts.now)) _ c.in_ok-texts.ensures
    (given_then _ _ c.in_ok-limit.limit _ c.in_ok-limit.ensures
    (given_then _ _ c.in_ok-after.after _ c.in_ok-after.ensures (denied_then _ _ _ _ _ c.in_err-query.ensures p.1 p.2))))

pub returns-in_err-table : goal.returns-in_err-table
returns-in_err-table g c =
    let p = err_from_is_err_and c.from_residual-in_err-table.result c.from_residual-in_err-table.ensures.1 in
    given_then _ _ c.in_ok-bounds.bounds _ c.in_ok-bounds.ensures
    (given_then _ _ (texts_among (items_view c.in_ok-texts.texts.now)) _ c.in_ok-texts.ensures
    (given_then _ _ c.in_ok-limit.limit _ c.in_ok-limit.ensures
    (given_then _ _ c.in_ok-after.after _ c.in_ok-after.ensures
    (given_then _ _ c.in_ok-query.query _ c.in_ok-query.ensures (denied_then _ _ _ _ _ c.in_err-table.ensures p.1 p.2)))))

pub returns-in_err-auths : goal.returns-in_err-auths
returns-in_err-auths g c =
    let p = err_from_is_err_and c.from_residual-in_err-auths.result c.from_residual-in_err-auths.ensures.1 in
    given_then _ _ c.in_ok-bounds.bounds _ c.in_ok-bounds.ensures
    (given_then _ _ (texts_among (items_view c.in_ok-texts.texts.now)) _ c.in_ok-texts.ensures
    (given_then _ _ c.in_ok-limit.limit _ c.in_ok-limit.ensures
    (given_then _ _ c.in_ok-after.after _ c.in_ok-after.ensures
    (given_then _ _ c.in_ok-query.query _ c.in_ok-query.ensures
    (given_then _ _ c.in_ok-table.table _ c.in_ok-table.ensures (denied_then _ _ _ _ _ c.in_err-auths.ensures p.1 p.2))))))

pub returns : goal.returns
returns g c = given c.in_ok-bounds.bounds _ c.in_ok-bounds.ensures
    (given (texts_among (items_view c.in_ok-texts.texts.now)) _ c.in_ok-texts.ensures
    (given c.in_ok-limit.limit _ c.in_ok-limit.ensures
    (given c.in_ok-after.after _ c.in_ok-after.ensures
    (given c.in_ok-query.query _ c.in_ok-query.ensures
    (given c.in_ok-table.table _ c.in_ok-table.ensures (given c.in_ok-auths.auths _ c.in_ok-auths.ensures refl))))))
