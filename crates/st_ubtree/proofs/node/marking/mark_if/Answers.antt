use Rattle.std.proofs.Common.{sym, subst}
use Rattle.st_tally.specs.inner.Marks.{AreMarked}
use Rattle.st_ubtree.proofs.node.marking.mark_if.Goals as goal

pub returns : goal.returns
returns g c = λ marked.
    subst (AreMarked c.mark_kids.new.marks) c.as_slice.ensures.value (c.mark_kids.ensures (subst (AreMarked c.args.marks.now) (sym c.as_slice.ensures.value) marked))
