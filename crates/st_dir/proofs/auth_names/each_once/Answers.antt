use Rattle.std.proofs.Common.{◌∙◌, ap, sym, subst, take, [], ◌||◌}
use Rattle.std.specs.List.{list_any}
use Rattle.std.proofs.lemmas.List.{take_all}
use Rattle.std.proofs.lemmas.List.Folds.{list_any_more}
use Rattle.st_text.specs.Texts.{same, is_among}
use Rattle.st_auth.specs.inner.Order.{name_at}
use Rattle.st_auth.proofs.Search.{places_inside}
use Rattle.st_sorted.specs.Sorted.{Rises, name_key}
use Rattle.st_grant.proofs.Sets.{among_with, rises_with}
use Rattle.st_dir.proofs.Sets.{at_any_default, met_in_order}
use Rattle.st_dir.proofs.auth_names.each_once.Goals as goal

pub get-requires : goal.get-requires
get-requires g c =
    let order = c.order-order.result.now in
    places_inside c.args.auths.now order c.order-order.ensures c.loop-place.place-index 0 c.loop-place-test.true

pub loop-place-preserved : goal.loop-place-preserved
loop-place-preserved g c =
    let held = c.loop-place.names.items in
    let new = c.in_ok-name.name in
    let is = c.in_ok-put.ensures.ok in
    let order = c.order-order.result.now in
    let at = c.loop-place.place-index in (
      subst (Rises name_key) (sym is) (rises_with new held c.loop-place.invariant.0),
      λ name.
          ap (λ names. is_among names name) is
          ∙ among_with new held name
          ∙ ap (λ b. b || same name new) (c.loop-place.invariant.1 name)
          ∙ ap (λ text. list_any (λ place. same name (name_at c.args.auths.now place)) (take at order) || same name text)
          (c.in_ok-name.ensures ∙ c.get.ensures
          ∙ at_any_default c.args.auths.now _ c.get.result.now []
          (places_inside c.args.auths.now order c.order-order.ensures at 0 c.loop-place-test.true))
          ∙ sym (list_any_more (λ place. same name (name_at c.args.auths.now place)) order at 0 c.loop-place-test.true),
    )

pub returns : goal.returns
returns g c =
    let order = c.order-order.result.now in
    let whole = take_all c.loop-place.place-index order c.loop-place-test.false in
    c.from_vec.ensures
    ∙ met_in_order c.args.auths.now order c.loop-place.names.items c.order-order.ensures c.loop-place.invariant.0 (λ name.
    c.loop-place.invariant.1 name ∙ ap (list_any (λ place. same name (name_at c.args.auths.now place))) whole)
