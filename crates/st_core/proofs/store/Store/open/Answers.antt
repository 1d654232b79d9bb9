use Rattle.std.proofs.Common.{rules}
use Rattle.st_core.proofs.store.Store.open.Goals as goal

pub returns-in-Ok-clause-ok : goal.returns-in-Ok-clause-ok
returns-in-Ok-clause-ok g c = search rules
