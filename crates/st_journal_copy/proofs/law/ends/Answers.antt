use Rattle.st_journal_copy.proofs.Pieces.{at_end}
use Rattle.st_journal_copy.proofs.law.ends.Goals as goal

pub returns : goal.returns
returns g c = λ source list count each ended. at_end (g.S.RecordSource.gives source) list count each ended
