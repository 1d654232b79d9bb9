use Rattle.std.proofs.Common.{◌<◌, ◌+◌, ◌-◌, length, arith}
use Rattle.st_ubtree.proofs.Lifting.{that_kid}
use Rattle.st_ubtree.proofs.node.even.pair_for.Goals as goal

pub returns-then-is_roomy : goal.returns-then-is_roomy
returns-then-is_roomy g c =
    let room = c.is_roomy.ensures c.if-is_roomy.true in (
      room.0,
      λ u v here beside.
          omega (arith, (that_kid 0 c.args.kids.now c.args.at u here.0 here.1 c.requires.pages).not_more, room.1 v beside),
    )

pub returns-then-is_roomy-2 : goal.returns-then-is_roomy-2
returns-then-is_roomy-2 g c =
    let kids = c.args.kids.now in
    let before = c.args.at - 1 in
    let room = c.is_roomy-then-at-gt0.ensures c.if-is_roomy-2.true in
    let there : before + 1 < length kids = omega (arith, c.if-at-gt0.true, c.requires.at) in (
      there,
      λ u v here beside.
          omega (arith, (that_kid 0 kids (before + 1) v beside.0 beside.1 c.requires.pages).not_more, room.1 u here),
    )
