use Rattle.std.proofs.Common.{rules}
use Rattle.st_hall_group_commit.proofs.draft.Draft.take.Goals as goal

pub invariant_of-self : goal.invariant_of-self
invariant_of-self g c = search rules

pub returns-clause-batch : goal.returns-clause-batch
returns-clause-batch g c = search rules
