use Rattle.std.proofs.Common.{rules}
use Rattle.st_scan.proofs.sight.SightJudge.finds_true.Goals as goal

pub returns-clause-value : goal.returns-clause-value
returns-clause-value g c = search rules
