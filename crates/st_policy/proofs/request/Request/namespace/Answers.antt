use Rattle.std.proofs.Common.{rules}
use Rattle.st_policy.proofs.request.Request.namespace.Goals as goal

pub returns-in_default : goal.returns-in_default
returns-in_default g c = search rules
