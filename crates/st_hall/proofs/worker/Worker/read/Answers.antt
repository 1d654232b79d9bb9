use Rattle.st_hall_press.proofs.Fronts.{prefix_trans}
use Rattle.st_hall.proofs.worker.Worker.read.Goals as goal

pub invariant_of-self : goal.invariant_of-self
invariant_of-self g c = (
  prefix_trans c.self.inside.learnt c.self.inside.desk.seen c.read.new.desk.seen c.self.invariant.0 c.read.ensures.seen,
  c.self.invariant.1,
  c.self.invariant.2,
)
