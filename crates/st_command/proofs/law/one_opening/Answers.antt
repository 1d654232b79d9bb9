use Rattle.st_command.proofs.Openings.{one_opening}
use Rattle.st_command.proofs.law.one_opening.Goals as goal

pub returns : goal.returns
returns c = one_opening
