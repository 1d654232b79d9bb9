use Rattle.std.proofs.Common.{rules}
use Rattle.st_policy.proofs.needs.oneself_or_system.Goals as goal

pub returns : goal.returns
returns g c = search rules
