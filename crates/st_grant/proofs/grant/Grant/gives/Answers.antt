use Rattle.std.proofs.Common.{rules}
use Rattle.st_grant.proofs.grant.Grant.gives.Goals as goal

pub returns-then-is_same : goal.returns-then-is_same
returns-then-is_same c = search rules
