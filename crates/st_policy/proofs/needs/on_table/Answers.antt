use Rattle.std.proofs.Common.{rules}
use Rattle.st_policy.proofs.needs.on_table.Goals as goal

pub returns : goal.returns
returns g c = search rules

pub returns-then-holds_table : goal.returns-then-holds_table
returns-then-holds_table g c = search rules
