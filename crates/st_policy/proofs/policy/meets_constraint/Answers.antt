use Rattle.std.proofs.Common.{rules}
use Rattle.st_policy.proofs.policy.meets_constraint.Goals as goal

pub returns-then-ne : goal.returns-then-ne
returns-then-ne g c = search rules

pub returns-else-sees : goal.returns-else-sees
returns-else-sees g c = search rules
