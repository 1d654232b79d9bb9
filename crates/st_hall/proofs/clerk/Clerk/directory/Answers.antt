use Rattle.std.proofs.Common.{rules}
use Rattle.st_hall.proofs.clerk.Clerk.directory.Goals as goal

pub returns : goal.returns
returns g c = search rules
