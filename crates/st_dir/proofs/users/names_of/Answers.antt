use Rattle.std.proofs.Common.{◌++◌, [], ◌∷◌, map, ap, sym, ◌∙◌}
use Rattle.std.proofs.lemmas.List.{map_more, take_all}
use Rattle.st_text.specs.Texts.{Text}
use Rattle.st_dir.specs.declared.user.User.{User}
use Rattle.st_dir.proofs.users.names_of.Goals as goal

pub loop-user-preserved : goal.loop-user-preserved
loop-user-preserved g c =
    let name_of : User g.row.A.Denot → Text = λ user. user.name in
    let name = c.copy.ensures ∙ ap name_of c.user-item.is in
    c.in_ok-push.ensures.ok
    ∙ (λ i. c.loop-user.invariant i ++ (name i ∷ []))
    ∙ sym (map_more name_of c.args.users.now c.loop-user.user-index c.user-item.result c.loop-user-test.true)

pub returns : goal.returns
returns g c =
    let name_of : User g.row.A.Denot → Text = λ user. user.name in
    c.loop-user.invariant ∙ ap (map name_of) (take_all c.loop-user.user-index c.args.users.now c.loop-user-test.false)
