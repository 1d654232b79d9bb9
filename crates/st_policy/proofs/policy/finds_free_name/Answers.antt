use Rattle.std.proofs.Common.{rules}
use Rattle.st_policy.proofs.policy.finds_free_name.Goals as goal

pub returns-else-not-has_table : goal.returns-else-not-has_table
returns-else-not-has_table g c = search rules
