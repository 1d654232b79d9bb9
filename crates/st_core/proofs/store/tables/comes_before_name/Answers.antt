use Rattle.std.proofs.Common.{rules}
use Rattle.st_core.proofs.store.tables.comes_before_name.Goals as goal

pub returns : goal.returns
returns g c = search rules
