use Rattle.st_command.proofs.Openings.{one_owner}
use Rattle.st_command.proofs.law.one_owner.Goals as goal

pub returns : goal.returns
returns c = one_owner
