use Rattle.std.proofs.Common.{rules}
use Rattle.st_hall_desk.proofs.desk.consult.Goals as goal

pub returns-then-len-clause-seen : goal.returns-then-len-clause-seen
returns-then-len-clause-seen g c = search rules

pub returns-then-len-clause-reply : goal.returns-then-len-clause-reply
returns-then-len-clause-reply g c = search rules

pub returns-clause-seen : goal.returns-clause-seen
returns-clause-seen g c = search rules

pub returns-clause-reply : goal.returns-clause-reply
returns-clause-reply g c = search rules
