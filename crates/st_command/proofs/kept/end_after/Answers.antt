use Rattle.std.proofs.Common.{rules}
use Rattle.st_command.proofs.kept.end_after.Goals as goal

pub returns-in-Ok-Lost : goal.returns-in-Ok-Lost
returns-in-Ok-Lost c = search rules
