use Rattle.std.proofs.Common.{rules}
use Rattle.st_hall_desk.proofs.scribe.adopt.Goals as goal

pub returns-clause-directory : goal.returns-clause-directory
returns-clause-directory c = search rules
