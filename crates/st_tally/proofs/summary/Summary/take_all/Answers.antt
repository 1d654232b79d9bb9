use Rattle.std.proofs.Common.{refl}
use Rattle.st_tally.proofs.Summing.{sums_all_less}
use Rattle.st_tally.proofs.summary.Summary.take_all.Goals as goal

pub returns : goal.returns
returns g c = λ rows more sums others.
    sums_all_less c.args.self.now _ c.args.other.now rows more sums others refl c.take_all.ensures.counts c.take_all.ensures.all
