use Rattle.std.proofs.Common.{rules}
use Rattle.st_auth.proofs.auths.Auths.from_list.Goals as goal

pub returns-in-Some-clause-no_memory : goal.returns-in-Some-clause-no_memory
returns-in-Some-clause-no_memory g c = search rules
