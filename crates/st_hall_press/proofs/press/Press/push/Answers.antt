use Rattle.std.proofs.Common.{rules}
use Rattle.st_hall_press.proofs.press.Press.push.Goals as goal

pub returns-clause-next : goal.returns-clause-next
returns-clause-next g c = search rules

pub returns-clause-pushed : goal.returns-clause-pushed
returns-clause-pushed g c = search rules
