use Rattle.std.proofs.Common.{rules}
use Rattle.st_hall_press.proofs.steps.decide.Goals as goal

pub returns-in-Ok-clause-heard : goal.returns-in-Ok-clause-heard
returns-in-Ok-clause-heard c = search rules

pub returns-in-Ok-clause-stranger : goal.returns-in-Ok-clause-stranger
returns-in-Ok-clause-stranger c = search rules
