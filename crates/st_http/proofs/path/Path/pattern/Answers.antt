use Rattle.std.proofs.Common.{rules}
use Rattle.st_http.proofs.path.Path.pattern.Goals as goal

pub returns-in-GrantNamespace : goal.returns-in-GrantNamespace
returns-in-GrantNamespace c = search rules
