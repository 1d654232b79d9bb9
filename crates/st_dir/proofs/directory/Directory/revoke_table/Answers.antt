use Rattle.std.proofs.Common.{rules}
use Rattle.st_dir.proofs.directory.Directory.revoke_table.Goals as goal

pub returns-clause-ok : goal.returns-clause-ok
returns-clause-ok g c = search rules
