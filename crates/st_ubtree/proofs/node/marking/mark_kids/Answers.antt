use Rattle.std.proofs.Common.{◌<◌, length, arith}
use Rattle.st_ubtree.proofs.node.marking.mark_kids.Goals as goal

pub loop-at-preserved : goal.loop-at-preserved
loop-at-preserved g c = λ marked.
    let below : c.loop-at.at < length c.args.kids.now = omega arith in
    c.mark_in.ensures c.args.kids.now (below, c.index-kids-at.is) (c.loop-at.invariant marked)
