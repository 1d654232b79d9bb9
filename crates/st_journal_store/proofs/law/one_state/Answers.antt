use Rattle.st_journal_store.proofs.Replaying as replaying
use Rattle.st_journal_store.proofs.law.one_state.Goals as goal

pub returns : goal.returns
returns g c = replaying.one_state
