use Rattle.std.proofs.Common.{rules}
use Rattle.st_ubtree.proofs.tree.count_made.Goals as goal

pub returns-in-Some : goal.returns-in-Some
returns-in-Some c = search rules
