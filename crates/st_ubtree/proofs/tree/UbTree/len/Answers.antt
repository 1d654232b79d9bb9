use Rattle.std.proofs.Common.{rules}
use Rattle.st_ubtree.proofs.tree.UbTree.len.Goals as goal

pub returns : goal.returns
returns g c = search rules
