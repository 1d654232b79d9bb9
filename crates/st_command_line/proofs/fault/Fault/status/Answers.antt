use Rattle.std.proofs.Common.{rules}
use Rattle.st_command_line.proofs.fault.Fault.status.Goals as goal

pub returns-in-TurnsSpent : goal.returns-in-TurnsSpent
returns-in-TurnsSpent c = search rules
