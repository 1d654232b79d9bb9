use Rattle.st_hall_group_commit.proofs.Batches.{after_join}
use Rattle.st_hall_group_commit.proofs.law.goes_on.Goals as goal

pub returns : goal.returns
returns c start front later = after_join start front later
