use Rattle.st_hall.proofs.Deciding.{never_lost}
use Rattle.st_hall.proofs.commits.MutexClerkCommits.change.Goals as goal

pub returns-clause-lost : goal.returns-clause-lost
returns-clause-lost g c = never_lost c.decide.result c.decide.ensures.busy
