use Rattle.std.proofs.Common.{◌∙◌, sym}
use Rattle.std.proofs.lemmas.Bool.{eqb-true}
use Rattle.st_index.specs.inner.Views.{viewed}
use Rattle.st_scan.proofs.Filters.{no_items}
use Rattle.st_scan.proofs.Positions.{entered_at, entered_left}
use Rattle.st_scan.proofs.step.forward.Goals as goal

pub returns-in-Some-clause-at : goal.returns-in-Some-clause-at
returns-in-Some-clause-at g c =
    let spent = no_items (viewed c.regions.at.rows) (eqb-true _ _ (sym c.is_empty.ensures ∙ c.regions-test.true)) in
    entered_at c.args.test.now.period c.args.test.now.query (g.I.RowIndex.content c.args.index.now) (g.I.RowIndex.regions c.args.index.now)
    c.regions.at _ _ c.in-Some.ensures.some c.regions.invariant.at spent

pub returns-in-Some-clause-left : goal.returns-in-Some-clause-left
returns-in-Some-clause-left g c =
    let spent = no_items (viewed c.regions.at.rows) (eqb-true _ _ (sym c.is_empty.ensures ∙ c.regions-test.true)) in
    entered_left c.args.test.now.period c.args.test.now.query (g.I.RowIndex.content c.args.index.now) (g.I.RowIndex.regions c.args.index.now)
    c.regions.at _ _ c.in-Some.ensures.some c.regions.invariant.at spent
    ∙ c.regions.invariant.left

pub returns-in-Some-clause-over : goal.returns-in-Some-clause-over
returns-in-Some-clause-over g c = λ none. absurd (c.in-Some.ensures.some.some none)

pub enter_region-requires-clause-rows : goal.enter_region-requires-clause-rows
enter_region-requires-clause-rows g c = no_items (viewed c.regions.at.rows) (eqb-true _ _ (sym c.is_empty.ensures ∙ c.regions-test.true))

pub regions-preserved : goal.regions-preserved
regions-preserved g c =
    let steps = c.in-Some-enter_region.ensures.some in
    record { at = steps.at; start = steps.start ∙ c.regions.invariant.start; left = steps.left ∙ c.regions.invariant.left }
