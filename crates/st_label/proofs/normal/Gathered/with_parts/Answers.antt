use Rattle.st_label.proofs.Gather.{parts_all, parts_any, keeps_and, keeps_or, keeps_term, keeps_empty}
use Rattle.st_label.proofs.normal.Gathered.with_parts.Goals as goal

pub returns-in-All : goal.returns-in-All
returns-in-All g c = rw (parts_all c.args.operator c.args.tree c.in-And.trees c.in-All.is c.in-And.is) c.with_all.ensures

pub returns-in-Any : goal.returns-in-Any
returns-in-Any g c = rw (keeps_and c.args.operator c.args.tree c.in-And.trees c.in-Any.is c.in-And.is) c.with.ensures

pub returns-in-All-operator : goal.returns-in-All-operator
returns-in-All-operator g c = rw (keeps_or c.args.operator c.args.tree c.in-Or.trees c.in-All-operator.is c.in-Or.is) c.with-in-All-operator.ensures

pub returns-in-Any-operator : goal.returns-in-Any-operator
returns-in-Any-operator g c = rw (parts_any c.args.operator c.args.tree c.in-Or.trees c.in-Any-operator.is c.in-Or.is) c.with_all-in-Any-operator.ensures

pub returns-in-Term : goal.returns-in-Term
returns-in-Term g c = rw (keeps_term c.args.operator c.args.tree c.in-Term.name c.in-Term.is) c.with-in-Term.ensures

pub returns-in-Empty : goal.returns-in-Empty
returns-in-Empty g c = rw (keeps_empty c.args.operator c.args.tree c.in-Empty.is) c.with-in-Empty.ensures
