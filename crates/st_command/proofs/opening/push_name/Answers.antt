use Rattle.std.proofs.Common.{rules}
use Rattle.st_command.proofs.opening.push_name.Goals as goal

pub returns : goal.returns
returns c = search rules
