use Rattle.st_journal_record.proofs.ReadBack.{text}
use Rattle.st_journal_record.proofs.law.requests_are_text.Goals as goal

pub returns : goal.returns
returns g c = text
