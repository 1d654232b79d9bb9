use Rattle.st_tally.proofs.Summing.{wider}
use Rattle.st_tally.proofs.summary.Summary.widen.Goals as goal

pub returns-clause-rows : goal.returns-clause-rows
returns-clause-rows g c = λ rows sums. record { within = wider c.args.self.now.bounds c.with-self.result c.with-self.ensures.others rows sums.within; counted = sums.counted }
