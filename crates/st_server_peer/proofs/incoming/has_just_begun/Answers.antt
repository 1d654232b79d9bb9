use Rattle.std.proofs.Common.{rules}
use Rattle.st_server_peer.proofs.incoming.has_just_begun.Goals as goal

pub returns-then-rest-gt0 : goal.returns-then-rest-gt0
returns-then-rest-gt0 c = search rules
