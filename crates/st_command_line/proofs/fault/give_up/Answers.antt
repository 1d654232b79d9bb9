use Rattle.std.proofs.Common.{rules}
use Rattle.st_command_line.proofs.fault.give_up.Goals as goal

pub returns : goal.returns
returns g c = search rules
