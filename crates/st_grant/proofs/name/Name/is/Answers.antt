use Rattle.std.proofs.Common.{rules}
use Rattle.st_grant.proofs.name.Name.is.Goals as goal

pub returns : goal.returns
returns c = search rules
