use Rattle.std.proofs.Common.{rules}
use Rattle.st_policy.proofs.request.Request.target.Goals as goal

pub returns-in-CreateUser-clause-value : goal.returns-in-CreateUser-clause-value
returns-in-CreateUser-clause-value g c = search rules
