use Rattle.std.proofs.Common.{refl}
use Rattle.std.proofs.lemmas.Result.{err_from_is_err_and}
use Rattle.serde_json.specs.View.{items_view}
use Rattle.st_json.specs.Needs.{given}
use Rattle.st_json.specs.inner.Parts.{texts_among}
use Rattle.st_json.proofs.Chosen.{given_then, denied_then}
use Rattle.st_json.proofs.users.create_user.Goals as goal

pub returns-in_err-text : goal.returns-in_err-text
returns-in_err-text g c =
    let p = err_from_is_err_and c.from_residual.result c.from_residual.ensures.1 in
    denied_then _ _ _ _ _ c.in_err-text.ensures p.1 p.2

pub returns-in_err-digest : goal.returns-in_err-digest
returns-in_err-digest g c =
    let p = err_from_is_err_and c.from_residual-in_err-digest.result c.from_residual-in_err-digest.ensures.1 in
    given_then _ _ c.in_ok-text.text.now _ c.in_ok-text.ensures (denied_then _ _ _ _ _ c.in_err-digest.ensures p.1 p.2)

pub returns-in_err-texts : goal.returns-in_err-texts
returns-in_err-texts g c =
    let p = err_from_is_err_and c.from_residual-in_err-texts.result c.from_residual-in_err-texts.ensures.1 in
    given_then _ _ c.in_ok-text.text.now _ c.in_ok-text.ensures (given_then _ _ c.in_ok-digest.digest _ c.in_ok-digest.ensures (denied_then _ _ _ _ _ c.in_err-texts.ensures p.1 p.2))

pub returns-in_err-user : goal.returns-in_err-user
returns-in_err-user g c =
    let p = err_from_is_err_and c.from_residual-in_err-user.result c.from_residual-in_err-user.ensures.1 in
    given_then _ _ c.in_ok-text.text.now _ c.in_ok-text.ensures
    (given_then _ _ c.in_ok-digest.digest _ c.in_ok-digest.ensures
    (given_then _ _ (texts_among (items_view c.in_ok-texts.texts.now)) _ c.in_ok-texts.ensures
    (denied_then _ _ _ _ _ c.in_err-user.ensures p.1 p.2)))

pub returns-in_err-auths : goal.returns-in_err-auths
returns-in_err-auths g c =
    let p = err_from_is_err_and c.from_residual-in_err-auths.result c.from_residual-in_err-auths.ensures.1 in
    given_then _ _ c.in_ok-text.text.now _ c.in_ok-text.ensures
    (given_then _ _ c.in_ok-digest.digest _ c.in_ok-digest.ensures
    (given_then _ _ (texts_among (items_view c.in_ok-texts.texts.now)) _ c.in_ok-texts.ensures
    (given_then _ _ c.in_ok-user.user _ c.in_ok-user.ensures (denied_then _ _ _ _ _ c.in_err-auths.ensures p.1 p.2))))

pub returns : goal.returns
returns g c = given c.in_ok-text.text.now _ c.in_ok-text.ensures
    (given c.in_ok-digest.digest _ c.in_ok-digest.ensures
    (given (texts_among (items_view c.in_ok-texts.texts.now)) _ c.in_ok-texts.ensures
    (given c.in_ok-user.user _ c.in_ok-user.ensures (given c.in_ok-auths.auths _ c.in_ok-auths.ensures refl))))
