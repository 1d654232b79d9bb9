use Rattle.std.proofs.Common.{◌∙◌, ap, sym, subst, take, ◌||◌, ◌&&◌}
use Rattle.std.specs.List.{list_any}
use Rattle.std.proofs.lemmas.List.{take_all}
use Rattle.std.proofs.lemmas.List.Folds.{list_any_more}
use Rattle.st_text.specs.Texts.{same, is_among}
use Rattle.st_grant.specs.Grants.{same_scope}
use Rattle.st_sorted.specs.Sorted.{Rises, name_key}
use Rattle.st_grant.proofs.Sets.{among_with_user, met_in_grants, rises_with_user}
use Rattle.st_grant.proofs.user_names.granted_on.Goals as goal

pub loop-grant-preserved : goal.loop-grant-preserved
loop-grant-preserved g c =
    let held = c.loop-grant.names.items in
    let scope = c.args.scope.now in
    let grants = c.args.grants.now in
    let at = c.loop-grant.grant-index in
    let grant = c.grant-item.result in
    let is = c.in_ok-put_granted.ensures.ok in (
      subst (Rises name_key) (sym is) (rises_with_user scope grant held c.loop-grant.invariant.0),
      λ name.
          ap (λ names. is_among names name) is
          ∙ among_with_user scope grant held name
          ∙ ap (λ b. b || (same_scope scope grant.scope && same name grant.user)) (c.loop-grant.invariant.1 name)
          ∙ ap (λ h. list_any (λ h. same_scope scope h.scope && same name h.user) (take at grants) || (same_scope scope h.scope && same name h.user)) c.grant-item.is
          ∙ sym (list_any_more (λ h. same_scope scope h.scope && same name h.user) grants at grant c.loop-grant-test.true),
    )

pub returns : goal.returns
returns g c =
    let scope = c.args.scope.now in
    let whole = take_all c.loop-grant.grant-index c.args.grants.now c.loop-grant-test.false in
    c.from_vec.ensures
    ∙ met_in_grants scope c.args.grants.now c.loop-grant.names.items c.loop-grant.invariant.0 (λ name.
    c.loop-grant.invariant.1 name ∙ ap (list_any (λ h. same_scope scope h.scope && same name h.user)) whole)
