use Rattle.std.proofs.Common.{None}
use Rattle.st_table.proofs.Numbers.{no_zero}
use Rattle.st_table.proofs.places.Places.take.Goals as goal

pub invariant_of-self : goal.invariant_of-self
invariant_of-self g c =
    no_zero c.self.inside.numbers.entries c.remove.new.self.entries c.args.place None tt c.remove.ensures.updates.0 c.self.invariant
