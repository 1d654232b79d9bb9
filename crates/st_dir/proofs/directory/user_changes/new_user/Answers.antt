use Rattle.std.proofs.Common.{rules}
use Rattle.st_dir.proofs.directory.user_changes.new_user.Goals as goal

pub returns : goal.returns
returns g c = search rules
