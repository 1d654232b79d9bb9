use Rattle.std.proofs.Common.{rules}
use Rattle.st_grant.proofs.grant.Scope.is_same.Goals as goal

pub returns-in-OnNamespace-OnNamespace : goal.returns-in-OnNamespace-OnNamespace
returns-in-OnNamespace-OnNamespace c = search rules
