use Rattle.std.proofs.Common.{rules}
use Rattle.st_table.proofs.lookup.is_shown.Goals as goal

pub returns : goal.returns
returns g c = search rules
