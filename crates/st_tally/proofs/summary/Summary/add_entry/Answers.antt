use Rattle.std.proofs.Common.{◌++◌, sym, ap, subst, ◌∙◌}
use Rattle.st_index.specs.inner.Views.{viewed}
use Rattle.st_tally.specs.inner.Sums.{Sums}
use Rattle.st_tally.proofs.summary.Summary.add_entry.Goals as goal

pub returns-in-One : goal.returns-in-One
returns-in-One g c = λ rows sums. subst (λ more. Sums c.add_view.new.self (rows ++ more)) (ap viewed (sym c.in-One.is) ∙ c.rows.ensures) (c.add_view.ensures rows sums)

pub returns-in-Many : goal.returns-in-Many
returns-in-Many g c = λ rows sums. subst (λ more. Sums c.add_rows.new.self (rows ++ more)) (ap viewed (sym c.in-Many.is) ∙ c.rows.ensures) (c.add_rows.ensures rows sums)
