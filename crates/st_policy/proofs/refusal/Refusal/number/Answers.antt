use Rattle.std.proofs.Common.{rules}
use Rattle.st_policy.proofs.refusal.Refusal.number.Goals as goal

pub returns-in-NoTable : goal.returns-in-NoTable
returns-in-NoTable c = search rules
