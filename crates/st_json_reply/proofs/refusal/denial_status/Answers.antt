use Rattle.std.proofs.Common.{rules}
use Rattle.st_json_reply.proofs.refusal.denial_status.Goals as goal

pub returns-in-Token : goal.returns-in-Token
returns-in-Token c = search rules
