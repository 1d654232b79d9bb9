use Rattle.std.proofs.Common.{subst}
use Rattle.st_tally.specs.inner.Marks.{AreMarked}
use Rattle.st_ubtree.proofs.node.marking.mark_all.Goals as goal

pub returns : goal.returns
returns g c = subst (AreMarked c.mark_kids.new.marks) c.as_slice.ensures.value (c.mark_kids.ensures (c.clear.ensures c.as_slice.result.now))
