use Rattle.std.proofs.Common.{rules}
use Rattle.st_dir.proofs.users.Users.copy.Goals as goal

pub returns : goal.returns
returns g c = search rules
