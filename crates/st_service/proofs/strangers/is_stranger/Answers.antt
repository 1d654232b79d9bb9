use Rattle.std.proofs.Common.{rules}
use Rattle.st_service.proofs.strangers.is_stranger.Goals as goal

pub returns-then-is_long : goal.returns-then-is_long
returns-then-is_long g c = search rules

pub returns-else-is_long : goal.returns-else-is_long
returns-else-is_long g c = search rules
