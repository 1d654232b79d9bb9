use Rattle.std.proofs.Common.{rules}
use Rattle.st_index.proofs.entry.Entry.rows.Goals as goal

pub returns : goal.returns
returns g c = search rules
