use Rattle.std.proofs.Common.{rules}
use Rattle.st_hall.proofs.clerk.Clerk.add.Goals as goal

pub invariant_of-self-2 : goal.invariant_of-self-2
invariant_of-self-2 g c = search rules
