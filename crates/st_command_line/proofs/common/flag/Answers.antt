use Rattle.std.proofs.Common.{rules}
use Rattle.st_command_line.proofs.common.flag.Goals as goal

pub returns-in-Some : goal.returns-in-Some
returns-in-Some c = search rules
