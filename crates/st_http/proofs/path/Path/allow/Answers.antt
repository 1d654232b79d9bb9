use Rattle.std.proofs.Common.{rules}
use Rattle.st_http.proofs.path.Path.allow.Goals as goal

pub returns-in-User : goal.returns-in-User
returns-in-User c = search rules
