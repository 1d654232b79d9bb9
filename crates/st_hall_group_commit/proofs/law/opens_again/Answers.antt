use Rattle.st_hall_group_commit.proofs.Batches.{again}
use Rattle.st_hall_group_commit.proofs.law.opens_again.Goals as goal

pub returns : goal.returns
returns c first start t kept list left lead made = again first start t kept list left lead made
