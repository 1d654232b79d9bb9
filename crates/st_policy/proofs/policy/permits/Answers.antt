use Rattle.std.proofs.Common.{rules}
use Rattle.st_policy.proofs.policy.permits.Goals as goal

pub returns-in-Constraint : goal.returns-in-Constraint
returns-in-Constraint g c = search rules

pub returns-in-Whoami : goal.returns-in-Whoami
returns-in-Whoami g c = search rules
