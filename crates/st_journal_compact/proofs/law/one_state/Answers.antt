use Rattle.st_journal_compact.proofs.Shorter as shorter
use Rattle.st_journal_compact.proofs.law.one_state.Goals as goal

pub returns : goal.returns
returns g c = λ first after changes bare. shorter.one_state first after changes bare.0 bare.1
