use Rattle.st_index.proofs.KeyPoints.{ranked}
use Rattle.st_index.proofs.row.Row.key.Goals as goal

pub returns-clause-value : goal.returns-clause-value
returns-clause-value g c = ranked c.args.period c.args.self.now _ _ c.of.ensures.key.same_bin c.of.ensures.key.same_address
