use Rattle.std.proofs.Common.{rules}
use Rattle.st_policy.proofs.denial.Denial.copy.Goals as goal

pub returns-in-Permission-default-Some : goal.returns-in-Permission-default-Some
returns-in-Permission-default-Some c = search rules
