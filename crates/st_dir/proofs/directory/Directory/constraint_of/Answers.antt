use Rattle.std.proofs.Common.{rules}
use Rattle.st_dir.proofs.directory.Directory.constraint_of.Goals as goal

pub returns-in-Some : goal.returns-in-Some
returns-in-Some g c = search rules
