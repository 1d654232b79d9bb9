use Rattle.std.proofs.Common.{rules}
use Rattle.st_journal_compact.proofs.decided.Decided.has.Goals as goal

pub returns : goal.returns
returns c = search rules
