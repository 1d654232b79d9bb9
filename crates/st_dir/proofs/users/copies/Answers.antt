use Rattle.std.proofs.Common.{[], ◌∷◌, ◌++◌, sym, ◌∙◌}
use Rattle.std.proofs.lemmas.List.{take_all, take_more}
use Rattle.st_dir.proofs.users.copies.Goals as goal

pub loop-user-preserved : goal.loop-user-preserved
loop-user-preserved g c =
    let copied = c.in_ok-copy.ensures ∙ c.user-item.is in
    c.in_ok-push.ensures.items
    ∙ (λ i. c.loop-user.invariant i ++ (copied i ∷ []))
    ∙ sym (take_more c.args.users.now c.loop-user.user-index c.user-item.result c.loop-user-test.true)

pub returns : goal.returns
returns g c = c.loop-user.invariant ∙ take_all c.loop-user.user-index c.args.users.now c.loop-user-test.false
