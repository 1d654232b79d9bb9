use Rattle.std.proofs.Common.{rules}
use Rattle.st_dir.proofs.directory.Directory.has_table.Goals as goal

pub returns : goal.returns
returns g c = search rules
