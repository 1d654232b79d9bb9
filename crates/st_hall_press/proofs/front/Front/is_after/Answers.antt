use Rattle.std.proofs.Common.{arith}
use Rattle.st_hall_press.proofs.Fronts.{after_by_one}
use Rattle.st_hall_press.proofs.front.Front.is_after.Goals as goal

pub returns : goal.returns
returns g c e =
    after_by_one c.args.before.now c.args.self.now c.len-longer.result c.len-shorter.result c.compare.ensures.1 c.len-longer.ensures c.len-shorter.ensures (omega arith) e
