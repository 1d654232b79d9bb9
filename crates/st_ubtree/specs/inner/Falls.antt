-- An invariant of a representation, which no reader has to believe: a child is lower than its parent.
use Rattle.std.specs.Prelude.{ℕ, ◌+◌, ◌≤◌, max, List, [], ◌∷◌}
use Rattle.std.proofs.Common.{arith}
use Rattle.std.specs.List.{All}
use Rattle.std.proofs.lemmas.List.Elements.{All-head, All-tail}
use denote.Param.Weighed.{most}
use Rattle.st_tally.specs.inner.Pages.{NodeValue}
use Rattle.st_ubtree.specs.inner.Kids.{IsKid}
use Rattle.std.specs.declared.alloc.Allocator.{Ghosts}
use Rattle.st_ubtree.specs.inner.Nodes.{IsNode}
use Rattle.st_ubtree.specs.declared.node.Kids.{Kids}
use Rattle.st_ubtree.specs.declared.node.Kids.TheVariants.{Page, Inner}
use Rattle.st_ubtree.specs.declared.node.Node.TheDeep.{deep-Kids}

pub most-kids : {A : Type 0} (below : ℕ) (kids : List (NodeValue A)) → All (IsKid below) kids
    → most (λ (k : NodeValue A). k.height + 1) kids ≤ below + 1
most-kids below [] h = omega arith
most-kids below (k ∷ ks) h = let a = (All-head (IsKid below) k ks h).same_height in omega
    (arith, a, most-kids below ks (All-tail (IsKid below) k ks h))

pub node-falls : {A : Type 0} (G : Ghosts A) (first height : ℕ) (kids : Kids A) → IsNode first height kids
    → max (deep-Kids A G kids) 0 ≤ height
node-falls G first height (Page entries) h = omega arith
node-falls G first height (Inner kids aside) h = let a = h.higher in omega (arith, a, most-kids h.below kids.items h.each)
