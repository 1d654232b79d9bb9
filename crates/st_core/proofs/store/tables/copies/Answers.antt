use Rattle.std.proofs.Common.{[], ◌∷◌, ◌++◌, sym, ◌∙◌}
use Rattle.std.proofs.lemmas.List.{take_all, take_more}
use Rattle.st_core.proofs.store.tables.copies.Goals as goal

pub loop-shelf-preserved : goal.loop-shelf-preserved
loop-shelf-preserved g c =
    let copied = c.in_ok-copy.ensures ∙ c.shelf-item.is in
    c.in_ok-push.ensures.items
    ∙ (λ i. c.loop-shelf.invariant i ++ (copied i ∷ []))
    ∙ sym (take_more c.args.shelves.now c.loop-shelf.shelf-index c.shelf-item.result c.loop-shelf-test.true)

pub returns : goal.returns
returns g c = c.loop-shelf.invariant ∙ take_all c.loop-shelf.shelf-index c.args.shelves.now c.loop-shelf-test.false
