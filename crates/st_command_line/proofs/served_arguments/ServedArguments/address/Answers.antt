use Rattle.std.proofs.Common.{rules}
use Rattle.st_command_line.proofs.served_arguments.ServedArguments.address.Goals as goal

pub returns-clause-port : goal.returns-clause-port
returns-clause-port c = search rules
