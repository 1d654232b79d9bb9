use Rattle.std.proofs.Common.{rules}
use Rattle.st_http.proofs.path.Path.endpoints.Goals as goal

pub returns-in-User : goal.returns-in-User
returns-in-User c = search rules

pub returns-in-Put : goal.returns-in-Put
returns-in-Put c = search rules
