use Rattle.std.proofs.Common.{rules}
use Rattle.st_http.proofs.reply.head.Goals as goal

pub returns : goal.returns
returns g c = search rules
