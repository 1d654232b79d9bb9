use Rattle.st_service.proofs.Connections.{joined}
use Rattle.st_service.proofs.law.connections_join.Goals as goal

pub returns : goal.returns
returns g c = joined
