use Rattle.std.proofs.Common.{Some}
use Rattle.st_table.proofs.Numbers.{no_zero}
use Rattle.st_table.proofs.places.Places.set.Goals as goal

pub invariant_of-self : goal.invariant_of-self
invariant_of-self g c =
    no_zero c.self.inside.numbers.entries c.insert.new.self.entries c.args.place (Some _) c.requires.some c.in-Ok.ensures.updates.0 c.self.invariant
