use Rattle.std.proofs.Common.{rules}
use Rattle.st_auth.proofs.set_verdicts.SetVerdicts.ask.Goals as goal

pub returns-in-Some-clause-value : goal.returns-in-Some-clause-value
returns-in-Some-clause-value g c = search rules
