use Rattle.std.proofs.Common.{rules}
use Rattle.st_policy.proofs.copy.copy_of_grant.Goals as goal

pub returns-in-GrantSystem : goal.returns-in-GrantSystem
returns-in-GrantSystem g c = search rules
