use Rattle.std.proofs.Common.{rules}
use Rattle.st_key.proofs.key.Key.after.Goals as goal

pub returns-then-self-bins-clause-next : goal.returns-then-self-bins-clause-next
returns-then-self-bins-clause-next c = search rules

pub returns-then-self-bins-clause-rank : goal.returns-then-self-bins-clause-rank
returns-then-self-bins-clause-rank c = search rules

pub returns-else-self-bins-clause-none : goal.returns-else-self-bins-clause-none
returns-else-self-bins-clause-none c = search rules

pub returns-else-self-bins-clause-last : goal.returns-else-self-bins-clause-last
returns-else-self-bins-clause-last c = search rules
