use Rattle.st_journal_record.proofs.ReadBack.{same, one}
use Rattle.st_journal_record.proofs.law.read_back.Goals as goal

pub returns-clause-same : goal.returns-clause-same
returns-clause-same g c = same

pub returns-clause-one : goal.returns-clause-one
returns-clause-one g c = one
