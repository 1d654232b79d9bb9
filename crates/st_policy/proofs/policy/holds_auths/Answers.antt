use Rattle.std.proofs.Common.{rules}
use Rattle.st_policy.proofs.policy.holds_auths.Goals as goal

pub returns-in-Some : goal.returns-in-Some
returns-in-Some g c = search rules
