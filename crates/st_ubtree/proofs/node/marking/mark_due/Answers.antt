use Rattle.std.proofs.Common.{sym, subst}
use Rattle.st_tally.specs.inner.Marks.{AreMarked}
use Rattle.st_ubtree.proofs.node.marking.mark_due.Goals as goal

pub returns : goal.returns
returns g c =
    subst (AreMarked c.mark_near.new.marks) c.as_slice.ensures.value (c.mark_near.ensures (subst (AreMarked c.args.marks.now) (sym c.as_slice.ensures.value) (c.requires c.if-all.false)))
