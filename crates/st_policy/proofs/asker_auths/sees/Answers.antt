use Rattle.std.proofs.Common.{rules}
use Rattle.st_policy.proofs.asker_auths.sees.Goals as goal

pub returns : goal.returns
returns g c = search rules
