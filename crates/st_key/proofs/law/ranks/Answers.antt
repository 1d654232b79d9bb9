use Rattle.st_key.proofs.PointLemmas.{before_by_rank, same_rank}
use Rattle.st_key.proofs.law.ranks.Goals as goal

pub returns-clause-before : goal.returns-clause-before
returns-clause-before c = before_by_rank

pub returns-clause-same : goal.returns-clause-same
returns-clause-same c = same_rank
