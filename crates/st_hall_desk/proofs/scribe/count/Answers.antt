use Rattle.std.proofs.Common.{rules}
use Rattle.st_hall_desk.proofs.scribe.count.Goals as goal

pub returns-clause-made : goal.returns-clause-made
returns-clause-made g c = search rules

pub invariant_of-desk : goal.invariant_of-desk
invariant_of-desk g c = search rules
