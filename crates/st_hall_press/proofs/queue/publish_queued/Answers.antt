use Rattle.std.proofs.Common.{rules}
use Rattle.st_hall_press.proofs.queue.publish_queued.Goals as goal

pub returns : goal.returns
returns g c = search rules
