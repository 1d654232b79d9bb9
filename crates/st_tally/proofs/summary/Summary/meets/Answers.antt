use Rattle.std.proofs.Common.{sym, ◌∙◌}
use Rattle.st_tally.proofs.Bounding.{none_counted}
use Rattle.st_tally.proofs.summary.Summary.meets.Goals as goal

pub returns : goal.returns
returns g c = λ rows judges sums apart. none_counted c.args.self.now.bounds c.args.query.now judges rows sums.within (sym c.meets.ensures ∙ apart)
