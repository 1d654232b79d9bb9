use Rattle.std.proofs.Common.{rules}
use Rattle.st_ubtree.proofs.node.needs.count_node.Goals as goal

pub returns-in_default : goal.returns-in_default
returns-in_default c = search rules
