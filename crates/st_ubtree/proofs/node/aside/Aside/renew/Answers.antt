use Rattle.st_ubtree.proofs.node.aside.Aside.renew.Goals as goal

pub returns-clause-marks : goal.returns-clause-marks
returns-clause-marks g c = c.clear.ensures c.args.kids.now
