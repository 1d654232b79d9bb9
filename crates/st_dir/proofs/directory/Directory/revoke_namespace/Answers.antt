use Rattle.std.proofs.Common.{rules}
use Rattle.st_dir.proofs.directory.Directory.revoke_namespace.Goals as goal

pub returns-clause-no_user : goal.returns-clause-no_user
returns-clause-no_user g c = search rules

pub returns-clause-there : goal.returns-clause-there
returns-clause-there g c = search rules

pub returns-clause-ok : goal.returns-clause-ok
returns-clause-ok g c = search rules
