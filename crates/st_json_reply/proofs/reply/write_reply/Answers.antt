use Rattle.std.proofs.Common.{rules}
use Rattle.st_json_reply.proofs.reply.write_reply.Goals as goal

pub returns-in-Count : goal.returns-in-Count
returns-in-Count g c = search rules

pub returns-in-Normal : goal.returns-in-Normal
returns-in-Normal g c = search rules

pub returns-in-Grid : goal.returns-in-Grid
returns-in-Grid g c = search rules
