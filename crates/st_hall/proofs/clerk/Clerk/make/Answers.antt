use Rattle.std.proofs.Common.{rules}
use Rattle.st_hall.proofs.clerk.Clerk.make.Goals as goal

pub returns-in-Ok-clause-front : goal.returns-in-Ok-clause-front
returns-in-Ok-clause-front g c = search rules
