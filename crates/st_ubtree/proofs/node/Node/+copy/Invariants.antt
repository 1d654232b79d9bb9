use Rattle.std.proofs.Common.{◌≡◌, ◌≤◌, take, vec_capacity}
use Rattle.st_ubtree.proofs.node.Node.+copy.Given as goal

abbrev pub decreases-copy : goal.decreases-copy
decreases-copy g l = goal.size-copy g l

abbrev pub invariant-loop-kid : goal.invariant-loop-kid
invariant-loop-kid g l = record {
  items : l.copies.items ≡ take l.kid-index l.kid-items;
  room : 33 ≤ vec_capacity l.copies;
}
