use Rattle.std.proofs.Common.{rules}
use Rattle.st_policy.proofs.limits.Side.get.Goals as goal

pub returns-clause-value : goal.returns-clause-value
returns-clause-value c = search rules
