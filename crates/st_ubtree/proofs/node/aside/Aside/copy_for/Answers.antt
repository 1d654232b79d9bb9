use Rattle.st_ubtree.proofs.Copying.{marks_same}
use Rattle.st_ubtree.proofs.node.aside.Aside.copy_for.Goals as goal

pub returns-clause-marks : goal.returns-clause-marks
returns-clause-marks g c = marks_same c.args.self.now.marks c.in_ok-marks.marks c.args.kids.now c.in_ok-marks.ensures.labels c.in_ok-marks.ensures.pages
