use Rattle.std.proofs.Common.{rules}
use Rattle.st_hall_press.proofs.queue.queue.Goals as goal

pub returns-in-Ok-clause-queued : goal.returns-in-Ok-clause-queued
returns-in-Ok-clause-queued g c = search rules
