use Rattle.std.proofs.Common.{rules}
use Rattle.st_hall_desk.proofs.desk.Desk.learn.Goals as goal

pub returns-clause-one : goal.returns-clause-one
returns-clause-one g c = search rules

pub returns-clause-that : goal.returns-clause-that
returns-clause-that g c = search rules
