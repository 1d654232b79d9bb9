use Rattle.st_service.specs.Answers.{Answers}
use Rattle.st_journal_store.proofs.Lives.{found_after}
use Rattle.st_journal_store.proofs.law.nothing_is_taken_back.Goals as goal

pub returns : goal.returns
returns c = λ old answered kept found s failed result served is.
    found_after Answers old answered kept found s failed result served.0 served.1 is
