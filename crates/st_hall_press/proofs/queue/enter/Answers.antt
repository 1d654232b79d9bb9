use Rattle.std.proofs.Common.{rules}
use Rattle.st_hall_press.proofs.queue.enter.Goals as goal

pub returns-clause-list : goal.returns-clause-list
returns-clause-list g c = search rules

pub returns-clause-ends : goal.returns-clause-ends
returns-clause-ends g c = search rules
