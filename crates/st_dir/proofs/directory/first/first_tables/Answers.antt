use Rattle.std.proofs.Common.{rules}
use Rattle.st_dir.proofs.directory.first.first_tables.Goals as goal

pub returns : goal.returns
returns g c = search rules
