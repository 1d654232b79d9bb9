use Rattle.std.proofs.Common.{[], ◌∷◌, ◌++◌, sym, ◌∙◌}
use Rattle.std.proofs.lemmas.List.{take_all, take_more}
use Rattle.st_grant.proofs.grants.copies.Goals as goal

pub loop-grant-preserved : goal.loop-grant-preserved
loop-grant-preserved g c =
    let copied = c.copy.ensures ∙ c.grant-item.is in
    c.in_ok-push.ensures.items
    ∙ (λ i. c.loop-grant.invariant i ++ (copied i ∷ []))
    ∙ sym (take_more c.args.grants.now c.loop-grant.grant-index c.grant-item.result c.loop-grant-test.true)

pub returns : goal.returns
returns g c = c.loop-grant.invariant ∙ take_all c.loop-grant.grant-index c.args.grants.now c.loop-grant-test.false
