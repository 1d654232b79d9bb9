use Rattle.st_journal_compact.proofs.Seeing as seeing
use Rattle.st_journal_compact.proofs.law.one_short_list.Goals as goal

pub returns : goal.returns
returns g c = seeing.one_short_list
