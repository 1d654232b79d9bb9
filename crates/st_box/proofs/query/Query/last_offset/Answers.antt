use Rattle.std.proofs.Common.{rules}
use Rattle.st_box.proofs.query.Query.last_offset.Goals as goal

pub returns-then-from-self-clause-ends : goal.returns-then-from-self-clause-ends
returns-then-from-self-clause-ends c = search rules

pub returns-then-from-self-clause-value : goal.returns-then-from-self-clause-value
returns-then-from-self-clause-value c = search rules
