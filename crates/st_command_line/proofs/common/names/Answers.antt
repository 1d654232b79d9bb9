use Rattle.std.proofs.Common.{rules, refl, codes}
use Rattle.st_command_line.proofs.Refusing.{fits}
use Rattle.st_command_line.proofs.common.names.Goals as goal

pub returns-clause-rule : goal.returns-clause-rule
returns-clause-rule c = search rules

pub returns-clause-fits : goal.returns-clause-fits
returns-clause-fits c = fits c.action.result (codes "NAME") (search rules) refl (search rules) (search rules)
