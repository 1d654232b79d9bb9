use Rattle.st_ubtree.proofs.node.marking.mark_near.Goals as goal

pub returns : goal.returns
returns g c = λ marked. c.mark_at-3.ensures (c.mark_at-2.ensures (c.mark_at.ensures marked))
