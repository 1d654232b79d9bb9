use Rattle.st_key.proofs.PointLemmas.{same_point}
use Rattle.st_key.proofs.law.equal_points.Goals as goal

pub returns : goal.returns
returns c = same_point
