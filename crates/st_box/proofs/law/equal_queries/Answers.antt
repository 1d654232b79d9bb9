use Rattle.st_box.proofs.Queries.{same_query}
use Rattle.st_box.proofs.law.equal_queries.Goals as goal

pub returns : goal.returns
returns c = same_query
