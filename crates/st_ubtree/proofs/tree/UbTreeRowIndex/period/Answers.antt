use Rattle.st_ubtree.proofs.Lawful.{lawful_tree}
use Rattle.st_ubtree.proofs.tree.UbTreeRowIndex.period.Goals as goal

pub returns-clause-lawful : goal.returns-clause-lawful
returns-clause-lawful g c = rw (← c.self.view_is) (lawful_tree c.self.inside.period c.self.inside.root c.self.inside.len c.self.invariant)
