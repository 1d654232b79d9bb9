use Rattle.std.proofs.Common.{rules}
use Rattle.st_policy.proofs.policy.finds_user.Goals as goal

pub returns-else-has_user : goal.returns-else-has_user
returns-else-has_user g c = search rules
