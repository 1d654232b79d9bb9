use Rattle.st_index.proofs.Sorting.{rank_below as below}
use Rattle.st_index.proofs.law.rank_below.Goals as goal

pub returns : goal.returns
returns g c = below
