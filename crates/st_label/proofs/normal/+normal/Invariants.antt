use Rattle.std.proofs.Common.{◌≡◌, map, take}
use Rattle.st_label.specs.Normal.{normal}
use Rattle.st_label.specs.inner.Views.{tree_view}
use Rattle.st_label.proofs.normal.+normal.Given as goal

abbrev pub invariant-normal_each-loop-tree : goal.invariant-normal_each-loop-tree
invariant-normal_each-loop-tree g l = map tree_view l.others.items ≡ map (λ tree. normal (tree_view tree)) (take l.tree-index l.trees.items)
