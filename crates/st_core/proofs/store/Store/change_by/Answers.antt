use Rattle.std.proofs.Common.{rules}
use Rattle.st_core.proofs.store.Store.change_by.Goals as goal

pub returns-clause-reply : goal.returns-clause-reply
returns-clause-reply g c = search rules

pub returns-clause-state : goal.returns-clause-state
returns-clause-state g c = search rules
