use Rattle.std.proofs.Common.{rules}
use Rattle.st_grant.proofs.grants.Grants.add_all.Goals as goal

pub returns-clause-ok : goal.returns-clause-ok
returns-clause-ok g c = search rules
