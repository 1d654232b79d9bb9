use Rattle.st_ubtree.proofs.node.aside.Aside.fill.Goals as goal

pub returns-clause-marks : goal.returns-clause-marks
returns-clause-marks g c = c.mark_kids.ensures (c.clear.ensures c.args.kids.now)
