use Rattle.std.proofs.Common.{rules, ap, refl, codes}
use Rattle.st_command_line.proofs.Refusing.{fits}
use Rattle.st_command_line.proofs.common.root.Goals as goal

pub returns-clause-rule : goal.returns-clause-rule
returns-clause-rule c = search rules

pub returns-clause-fits : goal.returns-clause-fits
returns-clause-fits c = fits c.action.result (codes "root") (search rules) refl (search rules) (search rules)

pub returns-clause-takes : goal.returns-clause-takes
returns-clause-takes c = (search rules, ap (λ a. a.action) c.action.ensures, search rules, search rules)
