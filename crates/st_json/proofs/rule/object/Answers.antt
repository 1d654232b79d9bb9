use Rattle.std.proofs.Common.{rules}
use Rattle.st_json.proofs.rule.object.Goals as goal

pub returns-then-is_memory : goal.returns-then-is_memory
returns-then-is_memory c = search rules
