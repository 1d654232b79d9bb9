use Rattle.std.proofs.Common.{◌≡◌, ◌++◌, List, length, map}
use Rattle.st_label.specs.Tree as label
use Rattle.st_label.specs.Normal.{insert_all}
use Rattle.st_label.specs.inner.Views.{tree_view}
use Rattle.st_label.proofs.normal.Gathered.with_all.Given as goal

-- the operands that are done
abbrev pub invariant-loop-tree : goal.invariant-loop-tree
invariant-loop-tree g l =
    (done : List label.Tree) × (map tree_view l.fn.others.items ≡ map tree_view l.others.items ++ done) × (map tree_view l.all.trees.items ≡ insert_all done (map tree_view l.fn.self.trees.items))

abbrev pub decreases-loop-tree : goal.decreases-loop-tree
decreases-loop-tree g l = length l.others.items
