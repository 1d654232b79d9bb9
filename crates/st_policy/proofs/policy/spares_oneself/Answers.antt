use Rattle.std.proofs.Common.{rules}
use Rattle.st_policy.proofs.policy.spares_oneself.Goals as goal

pub returns-else-not-is : goal.returns-else-not-is
returns-else-not-is g c = search rules
