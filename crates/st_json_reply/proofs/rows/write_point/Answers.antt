use Rattle.std.proofs.Common.{rules}
use Rattle.st_json_reply.proofs.rows.write_point.Goals as goal

pub returns : goal.returns
returns g c = search rules
