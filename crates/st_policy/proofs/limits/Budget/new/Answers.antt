use Rattle.std.proofs.Common.{rules}
use Rattle.st_policy.proofs.limits.Budget.new.Goals as goal

pub returns-clause-in_range : goal.returns-clause-in_range
returns-clause-in_range c = search rules
