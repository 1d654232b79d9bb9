use Rattle.std.proofs.Common.{rules}
use Rattle.st_http.proofs.fields.Reason.name.Goals as goal

pub returns-in-Host : goal.returns-in-Host
returns-in-Host c = search rules
