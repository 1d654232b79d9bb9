use Rattle.std.proofs.Common.{rules}
use Rattle.st_connection.proofs.sending.flush.Goals as goal

pub returns-in-Ok-clause-passed : goal.returns-in-Ok-clause-passed
returns-in-Ok-clause-passed g c = search rules

pub returns-in-Ok-clause-synced : goal.returns-in-Ok-clause-synced
returns-in-Ok-clause-synced g c = search rules

pub returns-in-Err-write_all-clause-synced : goal.returns-in-Err-write_all-clause-synced
returns-in-Err-write_all-clause-synced g c = search rules
