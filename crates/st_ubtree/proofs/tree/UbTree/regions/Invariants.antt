use Rattle.std.proofs.Common.{map}
use Rattle.st_index.specs.inner.Entries.{key_end}
use Rattle.st_ubtree.specs.inner.Ranges.{region_in}
use Rattle.st_ubtree.specs.inner.Trees.{regions_of}
use Rattle.st_ubtree.proofs.Walking.{Walks, left}
use Rattle.st_ubtree.proofs.tree.UbTree.regions.Given as goal

abbrev pub decreases-loop-next : goal.decreases-loop-next
decreases-loop-next g l = left (key_end l.self.period) l.next

abbrev pub invariant-loop-next : goal.invariant-loop-next
invariant-loop-next g l = Walks (key_end l.self.period) (regions_of (key_end l.self.period) l.self.root.pages) (map region_in l.ranges.items) l.next
