use Rattle.std.proofs.Common.{◌++◌, [], ◌∷◌, map, ap, sym, ◌∙◌}
use Rattle.std.proofs.lemmas.List.{map_more, take_all}
use Rattle.st_text.specs.Texts.{Text}
use Rattle.st_dir.specs.Listings.{held_on}
use Rattle.st_dir.specs.declared.grantee.Grantee.{Grantee}
use Rattle.st_dir.proofs.directory.Directory.grantees.Goals as goal

pub loop-name-preserved : goal.loop-name-preserved
loop-name-preserved g c =
    let scope = c.args.scope.now in
    let of_user : Text → Grantee g.row.A.Denot = λ user. record { user = user; permissions = held_on c.args.self.now scope user } in
    let held = c.in_ok-held_on.ensures ∙ ap (λ d. held_on d scope c.name-item.result) c.self.view_is in
    let item = (λ i. record { user = c.copy.ensures i; permissions = held i }) ∙ ap of_user c.name-item.is in
    c.in_ok-push.ensures.ok
    ∙ (λ i. c.loop-name.invariant i ++ (item i ∷ []))
    ∙ sym (map_more of_user c.args.names.now c.loop-name.name-index c.name-item.result c.loop-name-test.true)

pub returns : goal.returns
returns g c =
    let of_user : Text → Grantee g.row.A.Denot = λ user. record { user = user; permissions = held_on c.args.self.now c.args.scope.now user } in
    c.loop-name.invariant ∙ ap (map of_user) (take_all c.loop-name.name-index c.args.names.now c.loop-name-test.false)
