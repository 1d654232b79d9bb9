use Rattle.std.proofs.Common.{rules}
use Rattle.st_core.proofs.asked.Token.copy.Goals as goal

pub returns : goal.returns
returns c = search rules
