use Rattle.std.proofs.Common.{rules}
use Rattle.st_journal_store.proofs.keep.keep.Goals as goal

pub returns-clause-list : goal.returns-clause-list
returns-clause-list g c = search rules

pub returns-clause-crash : goal.returns-clause-crash
returns-clause-crash g c = search rules
