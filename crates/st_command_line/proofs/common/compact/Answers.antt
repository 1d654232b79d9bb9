use Rattle.std.proofs.Common.{rules, refl, codes}
use Rattle.st_command_line.proofs.Refusing.{fits}
use Rattle.st_command_line.proofs.common.compact.Goals as goal

pub returns-clause-fits : goal.returns-clause-fits
returns-clause-fits c = fits c.action.result (codes "compact") (search rules) refl (search rules) (search rules)
