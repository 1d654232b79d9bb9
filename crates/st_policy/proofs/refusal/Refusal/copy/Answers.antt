use Rattle.std.proofs.Common.{rules}
use Rattle.st_policy.proofs.refusal.Refusal.copy.Goals as goal

pub returns-in-BadName : goal.returns-in-BadName
returns-in-BadName c = search rules
