use Rattle.st_tally.specs.inner.Marks.{AreMarked}
use Rattle.st_ubtree.proofs.node.marking.mark_kids.Given as goal

abbrev pub invariant-loop-at : goal.invariant-loop-at
invariant-loop-at g l = AreMarked l.initial.marks l.kids → AreMarked l.marks l.kids
