use Rattle.std.proofs.Common.{[], ◌∷◌, ◌++◌, ap, sym, ◌∙◌}
use Rattle.std.proofs.lemmas.List.{map_more}
use Rattle.st_index.specs.RowViews.{row_of_view}
use Rattle.st_core.proofs.store.reading.copy_rows.Goals as goal

pub loop-row-preserved : goal.loop-row-preserved
loop-row-preserved g c =
    let copied = c.in_ok-copy.ensures ∙ ap row_of_view c.row-item.is in
    c.in_ok-push.ensures.ok
    ∙ (λ i. c.loop-row.invariant i ++ (copied i ∷ []))
    ∙ sym (map_more row_of_view c.args.rows.now c.loop-row.row-index c.row-item.result c.loop-row-test.true)
