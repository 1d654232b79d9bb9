use Rattle.st_label.proofs.Refused.{label_or_refused, not_both, one_fault}
use Rattle.st_label.proofs.law.one_answer.Goals as goal

pub returns-clause-some : goal.returns-clause-some
returns-clause-some c = label_or_refused

pub returns-clause-not_both : goal.returns-clause-not_both
returns-clause-not_both c = not_both

pub returns-clause-one : goal.returns-clause-one
returns-clause-one c = one_fault
