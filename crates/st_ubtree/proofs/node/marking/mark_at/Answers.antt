use Rattle.std.proofs.Common.{arith}
use Rattle.st_ubtree.proofs.node.marking.mark_at.Goals as goal

pub returns : goal.returns
returns g c = λ marked. c.mark_in.ensures c.args.kids.now (omega (arith, c.if-at-kids.false), c.index-kids-at.is) marked
