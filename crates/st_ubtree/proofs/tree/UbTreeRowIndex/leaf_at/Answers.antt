use Rattle.std.proofs.Common.{◌<◌}
use Rattle.st_key.specs.Key.{rank}
use Rattle.st_index.specs.inner.Entries.{key_end}
use Rattle.st_ubtree.proofs.Lawful.{leaf_at_key, leaf_of_regions}
use Rattle.st_ubtree.proofs.tree.UbTreeRowIndex.leaf_at.Given.{Over}
use Rattle.st_ubtree.proofs.tree.UbTreeRowIndex.leaf_at.Goals.{After-leaf_at}
use Rattle.st_ubtree.proofs.tree.UbTreeRowIndex.leaf_at.Goals as goal

below : (g : Over) (c : After-leaf_at g) → rank c.args.key < key_end c.self.inside.period
below g c = rw (← c.self.view_is) at c.requires

pub returns-clause-leaf : goal.returns-clause-leaf
returns-clause-leaf g c =
    rw (← c.self.view_is) (leaf_at_key c.self.inside.period (rank c.args.key) (rank c.last.result) (rank c.leaf_at.result.first)
    (rank c.leaf_at.result.last) c.self.inside.root.pages c.leaf_at.result.entries.now c.leaf_at.ensures c.self.invariant.spans c.last.ensures.rank
    (below g (goal.at.returns-clause-leaf g c).After-leaf_at))

pub returns-clause-of_regions : goal.returns-clause-of_regions
returns-clause-of_regions g c =
    rw (← c.self.view_is) (leaf_of_regions c.self.inside.period (rank c.args.key) (rank c.last.result) (rank c.leaf_at.result.first)
    (rank c.leaf_at.result.last) c.self.inside.root.pages c.leaf_at.result.entries.now c.leaf_at.ensures c.self.invariant.spans c.last.ensures.rank
    (below g (goal.at.returns-clause-of_regions g c).After-leaf_at))
