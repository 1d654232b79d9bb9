use Rattle.std.proofs.Common.{rules}
use Rattle.st_command_line.proofs.served_arguments.ServedArguments.worker_count.Goals as goal

pub returns-in-None-None-clause-is : goal.returns-in-None-None-clause-is
returns-in-None-None-clause-is c = search rules

pub returns-in-None-None-clause-some : goal.returns-in-None-None-clause-some
returns-in-None-None-clause-some c = search rules
