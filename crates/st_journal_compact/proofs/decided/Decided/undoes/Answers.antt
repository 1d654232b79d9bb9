use Rattle.std.proofs.Common.{rules}
use Rattle.st_journal_compact.proofs.decided.Decided.undoes.Goals as goal

pub returns-in_default : goal.returns-in_default
returns-in_default c = search rules
