use Rattle.std.proofs.Common.{◌<◌, subst}
use Rattle.st_ubtree.proofs.tree.UbTreeRowIndex.count.Goals as goal

pub count-requires : goal.count-requires
count-requires g c = subst (λ n. n < 18446744073709551616) c.self.invariant.counted c.self.invariant.most

pub returns : goal.returns
returns g c = rw (← c.self.view_is) c.count.ensures.count
