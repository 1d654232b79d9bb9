use Rattle.std.proofs.Common.{[], ◌∷◌, ◌++◌, subst}
use Rattle.st_tally.specs.inner.Sums.{Sums}
use Rattle.st_tally.proofs.summary.Summary.add.Goals as goal

pub returns : goal.returns
returns g c = λ rows sums. subst (λ r. Sums c.add_view.new.self (rows ++ r ∷ [])) c.of.ensures (c.add_view.ensures rows sums)
