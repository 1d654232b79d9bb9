use Rattle.std.proofs.Common.{rules}
use Rattle.st_journal_record.proofs.write.record_of.Goals as goal

pub returns-clause-made : goal.returns-clause-made
returns-clause-made c = search rules
