use Rattle.std.proofs.Common.{rules}
use Rattle.st_dir.proofs.directory.Directory.grants.Goals as goal

pub returns-in-Ok-clause-ok : goal.returns-in-Ok-clause-ok
returns-in-Ok-clause-ok g c = search rules
