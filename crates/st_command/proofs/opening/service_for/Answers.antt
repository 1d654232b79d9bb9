use Rattle.std.proofs.Common.{rules}
use Rattle.st_command.proofs.opening.service_for.Goals as goal

pub returns-clause-ok : goal.returns-clause-ok
returns-clause-ok c = search rules
