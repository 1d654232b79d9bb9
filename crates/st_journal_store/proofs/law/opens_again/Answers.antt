use Rattle.st_journal_store.proofs.Replaying.{again}
use Rattle.st_journal_store.proofs.law.opens_again.Goals as goal

pub returns : goal.returns
returns c = again
