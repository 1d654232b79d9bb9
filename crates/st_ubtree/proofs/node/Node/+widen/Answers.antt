use Rattle.std.proofs.Common.{ℕ, List, ap, subst, sym, ◌∙◌, rules, vec_capacity}
use Rattle.st_key.specs.Key.{rank}
use Rattle.st_tally.specs.inner.Marks.{AreMarked}
use Rattle.st_tally.specs.inner.Pages.{NodeValue, rows_of_pages}
use Rattle.st_tally.specs.inner.Sums.{Sums}
use Rattle.st_tally.proofs.Placing.{set_again}
use Rattle.st_ubtree.specs.inner.Firsts.{AreFirsts}
use Rattle.st_ubtree.specs.inner.Kids.{pages_of}
use Rattle.st_ubtree.specs.inner.Nodes.{IsInnerNode, inner_node}
use Rattle.st_ubtree.proofs.Over.{IsKidFor, IsOver, is_over, kid_for, kid_lower}
use Rattle.st_ubtree.proofs.node.Node.+widen.Given.{Over}
use Rattle.st_ubtree.proofs.node.Node.+widen.Goals.{After-deref_mut-aside, After-index_mut-kid}
use Rattle.st_ubtree.proofs.node.Node.+widen.Goals as goal

over : (g : Over) (t : ℕ) (c : After-deref_mut-aside g t) → IsOver c.self.inside c.in-Inner.kids c.deref_mut-aside.result.now c.args.self.now
over g t c = is_over c.self.inside c.in-Inner.is c.deref_mut-aside.ensures.value c.self.invariant c.self.view_is

chosen : (g : Over) (t : ℕ) (c : After-index_mut-kid g t)
    → IsKidFor (rank c.args.key) c.self.inside c.in-Inner.kids c.deref_mut-aside.result.now c.args.self.now c.child_for-at.result c.index_mut-kid.result.now
chosen g t c =
    kid_for (is_over c.self.inside c.in-Inner.is c.deref_mut-aside.ensures.value c.self.invariant c.self.view_is) c.child_for-at.ensures c.index_mut-kid.ensures.value

pub widen-requires : goal.widen-requires
widen-requires g t c κs within = search (rules, kid_lower (chosen g t (goal.at.widen-requires g t c).After-index_mut-kid), within)

pub invariant_of-self-2 : goal.invariant_of-self-2
invariant_of-self-2 g t c =
    let k = chosen g t (goal.at.invariant_of-self-2 g t c).After-index_mut-kid in
    let P = λ (ks : List (NodeValue g.row.A.Denot)). IsInnerNode (rank c.self.inside.first) c.self.inside.height ks (vec_capacity c.in-Inner.kids)
    × Sums c.self.inside.sum (rows_of_pages (pages_of ks)) × AreMarked c.deref_mut-aside.result.now.marks ks × AreFirsts c.deref_mut-aside.result.now.firsts ks in
    let was : P c.in-Inner.kids.items = (k.over.good, k.over.sums, k.over.marked, k.over.firsts) in
    subst P (sym (set_again c.in-Inner.kids.items c.child_for-at.result c.index_mut-kid.result.now c.widen.new.self k.read c.widen.ensures k.chosen.within)) was

pub returns : goal.returns
returns g t c =
    let k = chosen g t (goal.at.returns g t c).After-index_mut-kid in
    ap (inner_node (rank c.self.inside.first) c.self.inside.height)
    (set_again c.in-Inner.kids.items c.child_for-at.result c.index_mut-kid.result.now c.widen.new.self k.read c.widen.ensures k.chosen.within) ∙ k.over.seen

pub invariant_of-self-then-self-eq1 : goal.invariant_of-self-then-self-eq1
invariant_of-self-then-self-eq1 g t c =
    let o = over g t (goal.at.invariant_of-self-then-self-eq1 g t c).After-deref_mut-aside in
    (o.good, o.sums, c.mark_if.ensures (c.make_room.ensures c.in-Inner.kids.items o.marked), o.firsts)

pub returns-then-self-eq1 : goal.returns-then-self-eq1
returns-then-self-eq1 g t c = (over g t (goal.at.returns-then-self-eq1 g t c).After-deref_mut-aside).seen
