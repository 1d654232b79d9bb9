use Rattle.st_tally.proofs.Summing.{sums_all}
use Rattle.st_tally.proofs.summary.Summary.add_all.Goals as goal

pub returns : goal.returns
returns g c = λ rows more sums others.
    sums_all c.args.self.now _ c.args.other.now rows more sums others c.joined-self.ensures.own c.joined-self.ensures.others c.put_all.ensures.counts c.put_all.ensures.all
