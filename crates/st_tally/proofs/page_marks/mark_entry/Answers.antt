use Rattle.std.proofs.Common.{◌≡◌, ◌<◌, length, refl, sym, ap, subst, ◌∙◌, arith, rules}
use Rattle.st_index.specs.RowViews.{row_of_view}
use Rattle.st_index.specs.inner.Views.{viewed}
use Rattle.st_tally.specs.inner.Marks.{HasAt}
use Rattle.st_tally.specs.inner.Spots.{IsSpotOf}
use Rattle.st_tally.proofs.Placing.{at_changed, at_other}
use Rattle.st_tally.proofs.page_marks.mark_entry.Goals as goal

pub returns-clause-mark : goal.returns-clause-mark
returns-clause-mark g c = λ number spot a b few.
    let page = c.args.page.now in
    let at = c.args.at in
    let row = row_of_view c.in-One.row in
    let numbers : length page.numbers ≡ 32 = search rules in
    let spots : length page.spots ≡ 32 = search rules in
    let same : number ≡ c.number_of.result = at_changed page.numbers at c.number_of.result number (omega (arith, c.requires, numbers)) a in (
      row,
      sym c.rows.ensures ∙ ap viewed c.in-One.is,
      subst (λ s. IsSpotOf page.week s row.point) (sym (at_changed page.spots at c.in-Some.spot spot (omega (arith, c.requires, spots)) b))
          (subst (IsSpotOf page.week c.in-Some.spot) c.point.ensures c.in-Some.ensures.some),
      λ low. subst (λ m. HasAt c.number_of.new.labels.items m row.label) (sym same)
          (subst (λ l. HasAt c.number_of.new.labels.items c.number_of.result l) c.label.ensures
          (c.number_of.ensures.number (subst (λ m. m < 512) same low))),
    )

pub returns-2-clause-others : goal.returns-2-clause-others
returns-2-clause-others g c = (λ i x ne h. at_other c.args.page.now.numbers c.args.at i 65535 x ne h, λ i x ne h. h, refl)
