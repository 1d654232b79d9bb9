use Rattle.std.proofs.Common.{ap, rules, ◌∙◌}
use Rattle.std.proofs.lemmas.List.{nil_from_length}
use Rattle.st_index.specs.inner.Views.{viewed}
use Rattle.st_index.proofs.rows_view.RowsView.split_first.Goals as goal

pub returns-in_ok-row-in-Many-clause-some : goal.returns-in_ok-row-in-Many-clause-some
returns-in_ok-row-in-Many-clause-some g c = search rules

pub returns-in_err-row-in-Many-clause-none : goal.returns-in_err-row-in-Many-clause-none
returns-in_err-row-in-Many-clause-none g c = rw c.from_residual.ensures (ap viewed c.in-Many.is ∙ nil_from_length c.in-Many.rows.now c.in_err-row-in-Many.ensures.cases)
