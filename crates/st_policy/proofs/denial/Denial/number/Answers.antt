use Rattle.std.proofs.Common.{rules}
use Rattle.st_policy.proofs.denial.Denial.number.Goals as goal

pub returns-in-Authorization : goal.returns-in-Authorization
returns-in-Authorization c = search rules
