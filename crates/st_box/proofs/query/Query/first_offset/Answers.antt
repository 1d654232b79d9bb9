use Rattle.std.proofs.Common.{rules}
use Rattle.st_box.proofs.query.Query.first_offset.Goals as goal

pub returns-then-from-self-clause-starts : goal.returns-then-from-self-clause-starts
returns-then-from-self-clause-starts c = search rules

pub returns-then-from-self-clause-value : goal.returns-then-from-self-clause-value
returns-then-from-self-clause-value c = search rules
