use Rattle.std.proofs.Common.{rules}
use Rattle.st_server_workers.proofs.workers.queue_for.Goals as goal

pub returns : goal.returns
returns c = search rules

pub returns-in_err-at : goal.returns-in_err-at
returns-in_err-at c = search rules
