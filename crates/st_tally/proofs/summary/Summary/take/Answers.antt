use Rattle.std.proofs.Common.{refl}
use Rattle.st_tally.proofs.Summing.{sums_less}
use Rattle.st_tally.proofs.summary.Summary.take.Goals as goal

pub returns : goal.returns
returns g c = λ rows sums. sums_less c.args.self.now _ rows c.args.row.now sums refl c.take.ensures
