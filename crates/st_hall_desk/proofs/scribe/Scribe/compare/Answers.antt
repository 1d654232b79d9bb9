use Rattle.std.proofs.Common.{rules}
use Rattle.st_hall_desk.proofs.scribe.Scribe.compare.Goals as goal

pub returns : goal.returns
returns g c = search rules
