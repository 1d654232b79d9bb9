use Rattle.std.proofs.Common.{◌≡◌, ◌++◌, List, length, map}
use Rattle.st_label.specs.Tree as label
use Rattle.st_label.specs.inner.Gathered.{gathered}
use Rattle.st_label.specs.inner.Views.{tree_view, op_view}
use Rattle.st_label.proofs.normal.gather.Given as goal

-- the operands that are done
abbrev pub invariant-loop-tree : goal.invariant-loop-tree
invariant-loop-tree g l =
    (done : List label.Tree) × (map tree_view l.fn.trees.items ≡ map tree_view l.trees.items ++ done) × (map tree_view l.all.trees.items ≡ gathered (op_view l.operator) done)

abbrev pub decreases-loop-tree : goal.decreases-loop-tree
decreases-loop-tree g l = length l.trees.items
