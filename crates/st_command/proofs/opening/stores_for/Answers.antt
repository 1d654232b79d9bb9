use Rattle.std.proofs.Common.{rules}
use Rattle.st_command.proofs.opening.stores_for.Goals as goal

pub returns-clause-ok : goal.returns-clause-ok
returns-clause-ok c = search rules

pub returns-clause-alike : goal.returns-clause-alike
returns-clause-alike c = search rules
