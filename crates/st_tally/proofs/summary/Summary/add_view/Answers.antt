use Rattle.std.proofs.Common.{Bool, cond, subst}
use Rattle.st_text.specs.Texts.{Text}
use Rattle.st_index.specs.RowViews.{row_of_view}
use Rattle.st_tally.specs.inner.Sums.{CountsMore, IsWithin}
use Rattle.st_tally.proofs.Summing.{sums_one}
use Rattle.st_tally.proofs.summary.Summary.add_view.Goals as goal

pub returns : goal.returns
returns g c = λ rows sums.
    sums_one c.args.self.now _ rows (row_of_view c.args.row) sums c.with-self.ensures.others
    (subst (IsWithin c.with-self.result) c.point.ensures c.with-self.ensures.one)
    (subst (λ l. CountsMore c.args.self.now.labels c.put.new.self (λ (judges : Text → Bool). cond (judges l) 1 0)) c.label.ensures c.put.ensures)
