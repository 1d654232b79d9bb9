use Rattle.std.proofs.Common.{rules}
use Rattle.st_policy.proofs.request.Request.name.Goals as goal

pub returns-in-Put-clause-value : goal.returns-in-Put-clause-value
returns-in-Put-clause-value g c = search rules

pub returns-in-Scan-clause-value : goal.returns-in-Scan-clause-value
returns-in-Scan-clause-value g c = search rules
