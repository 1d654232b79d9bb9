use Rattle.std.proofs.Common.{rules}
use Rattle.st_http.proofs.token.is_bearer.Goals as goal

pub returns-then-eq_ignore_ascii_case : goal.returns-then-eq_ignore_ascii_case
returns-then-eq_ignore_ascii_case c = search rules
