use Rattle.std.proofs.Common.{rules}
use Rattle.st_policy.proofs.request.Request.user.Goals as goal

pub returns-in-User : goal.returns-in-User
returns-in-User g c = search rules

pub returns-in_default : goal.returns-in_default
returns-in_default g c = search rules
