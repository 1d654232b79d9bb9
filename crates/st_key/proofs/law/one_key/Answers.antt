use Rattle.st_key.proofs.PointLemmas.{one_key, one_point}
use Rattle.st_key.proofs.law.one_key.Goals as goal

pub returns-clause-key : goal.returns-clause-key
returns-clause-key c = one_key

pub returns-clause-point : goal.returns-clause-point
returns-clause-point c = one_point
