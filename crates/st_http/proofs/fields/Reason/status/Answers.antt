use Rattle.std.proofs.Common.{rules}
use Rattle.st_http.proofs.fields.Reason.status.Goals as goal

pub returns-in-Size : goal.returns-in-Size
returns-in-Size c = search rules
