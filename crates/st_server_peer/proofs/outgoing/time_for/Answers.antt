use Rattle.std.proofs.Common.{rules}
use Rattle.st_server_peer.proofs.outgoing.time_for.Goals as goal

pub returns : goal.returns
returns c = search rules
