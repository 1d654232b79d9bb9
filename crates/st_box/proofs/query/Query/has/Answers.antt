use Rattle.std.proofs.Common.{rules}
use Rattle.st_box.proofs.query.Query.has.Goals as goal

pub returns-else-self-t : goal.returns-else-self-t
returns-else-self-t c = search rules

pub returns-then-self-t : goal.returns-then-self-t
returns-then-self-t c = search rules
