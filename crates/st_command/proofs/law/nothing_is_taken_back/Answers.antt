use Rattle.std.specs.Prelude.{is_some}
use Rattle.st_service.specs.Answers.{Answers}
use Rattle.st_journal_store.specs.Keeping.{answered}
use Rattle.st_journal_store.proofs.Lives.{found_after}
use Rattle.st_journal_store.proofs.Replaying.{again}
use Rattle.st_command.proofs.law.nothing_is_taken_back.Goals as goal

pub returns : goal.returns
returns g c first before begun s status serves clean left leaves found made =
    let after = serves.after in
    let is = again first after.kept (answered after) found left (serves.leaves clean left leaves) made in
    found_after Answers before (answered after) after.kept found s (is_some after.loss) serves.ended
    serves.served serves.kept is
