use Rattle.std.proofs.Common.{[], ◌∷◌, ◌++◌, sym, ◌∙◌}
use Rattle.std.proofs.lemmas.List.{take_all, take_more}
use Rattle.st_dir.proofs.tables.copies.Goals as goal

pub loop-info-preserved : goal.loop-info-preserved
loop-info-preserved g c =
    let copied = c.copy.ensures ∙ c.info-item.is in
    c.in_ok-push.ensures.items
    ∙ (λ i. c.loop-info.invariant i ++ (copied i ∷ []))
    ∙ sym (take_more c.args.tables.now c.loop-info.info-index c.info-item.result c.loop-info-test.true)

pub returns : goal.returns
returns g c = c.loop-info.invariant ∙ take_all c.loop-info.info-index c.args.tables.now c.loop-info-test.false
