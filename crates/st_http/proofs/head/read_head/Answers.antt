use Rattle.std.proofs.Common.{rules}
use Rattle.st_http.proofs.head.read_head.Goals as goal

pub returns-in-Err-TooManyHeaders : goal.returns-in-Err-TooManyHeaders
returns-in-Err-TooManyHeaders c = search rules
