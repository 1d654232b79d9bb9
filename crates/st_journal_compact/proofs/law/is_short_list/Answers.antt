use Rattle.st_journal_compact.proofs.Seeing as seeing
use Rattle.st_journal_compact.proofs.law.is_short_list.Goals as goal

pub returns : goal.returns
returns c = λ first after records kept watched short. seeing.is_short_list first after records kept watched.0 watched.1 short
