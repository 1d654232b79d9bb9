use Rattle.std.proofs.Common.{rules}
use Rattle.st_command_line.proofs.fault.FaultFromClapError.from.Goals as goal

pub returns-in-OutOfMemory : goal.returns-in-OutOfMemory
returns-in-OutOfMemory c = search rules
