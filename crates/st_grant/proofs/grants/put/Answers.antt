use Rattle.std.proofs.Common.{◌≡◌, false, ◌∷◌, ap, sym, ◌∙◌, subst, if◌then◌else◌}
use Rattle.std.specs.List.{list_any}
use Rattle.st_text.specs.Texts.{in_order}
use Rattle.st_grant.specs.Grants.{same_grant}
use Rattle.st_grant.specs.Order.{grant_key}
use Rattle.st_sorted.specs.Sorted.{Rises}
use Rattle.st_sorted.specs.inner.Places.{IsPlace}
use Rattle.st_grant.specs.inner.Keys.{grant_own}
use Rattle.st_sorted.proofs.Sorted.{none_from_any, rises_in, put_in}
use Rattle.st_grant.proofs.grants.put.Goals as goal

pub returns-clause-ok : goal.returns-clause-ok
returns-clause-ok g c =
    let items = c.args.grants.now.items in
    let free : list_any (same_grant c.args.grant) items ≡ false = sym (rw c.deref.ensures.value at c.has.ensures) ∙ c.if-has.false in
    let placed : IsPlace grant_key (grant_key c.args.grant) items c.place_of-place.result = rw c.deref-2.ensures.value at c.place_of-place.ensures.place in
    c.in-Ok.ensures.items
    ∙ put_in grant_key c.args.grant items c.place_of-place.result c.requires placed
    ∙ sym (ap (λ b. if b then items else in_order grant_key (c.args.grant ∷ items)) free)

pub returns-clause-sorted : goal.returns-clause-sorted
returns-clause-sorted g c =
    let items = c.args.grants.now.items in
    let free : list_any (same_grant c.args.grant) items ≡ false = sym (rw c.deref.ensures.value at c.has.ensures) ∙ c.if-has.false in
    let placed : IsPlace grant_key (grant_key c.args.grant) items c.place_of-place.result = rw c.deref-2.ensures.value at c.place_of-place.ensures.place in
    subst (Rises grant_key) (sym c.in-Ok.ensures.items)
    (rises_in grant_key c.args.grant (same_grant c.args.grant) (λ h e. grant_own c.args.grant h e) items c.place_of-place.result c.requires placed
    (none_from_any grant_key (same_grant c.args.grant) items free))
