use Rattle.std.proofs.Common.{Some, arith}
use Rattle.st_table.proofs.Numbers.{no_zero}
use Rattle.st_table.proofs.places.Places.add.Goals as goal

pub invariant_of-self : goal.invariant_of-self
invariant_of-self g c = λ place. grind arith

pub invariant_of-self-in_default-before : goal.invariant_of-self-in_default-before
invariant_of-self-in_default-before g c =
    no_zero c.self.inside.numbers.entries c.insert.new.self.entries c.args.place (Some _) (omega arith) c.in-Ok.ensures.updates.0 c.self.invariant

pub invariant_of-self-2 : goal.invariant_of-self-2
invariant_of-self-2 g c =
    no_zero c.self.inside.numbers.entries c.insert.new.self.entries c.args.place (Some _) (omega arith) c.in-Ok.ensures.updates.0 c.self.invariant
