use Rattle.std.proofs.Common.{rules}
use Rattle.st_policy.proofs.limits.Side.new.Goals as goal

pub invariant_of-result : goal.invariant_of-result
invariant_of-result c = search rules

pub returns-then-number-le-MAX-clause-in_range : goal.returns-then-number-le-MAX-clause-in_range
returns-then-number-le-MAX-clause-in_range c = search rules
