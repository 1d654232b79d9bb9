use Rattle.std.proofs.Common.{rules}
use Rattle.st_http.proofs.message.Take.expects.Goals as goal

pub returns-in-Fault : goal.returns-in-Fault
returns-in-Fault c = search rules
