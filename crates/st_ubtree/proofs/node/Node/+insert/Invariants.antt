use Rattle.st_ubtree.proofs.node.Node.+insert.Given as goal

abbrev pub decreases-insert : goal.decreases-insert
decreases-insert g l = goal.size-insert g l
