use Rattle.std.proofs.Common.{◌≡◌, ℕ, subst, sym, arith, rules, vec_capacity}
use Rattle.std.proofs.Math.ListN.{set}
use Rattle.std.specs.List.{All}
use Rattle.st_key.specs.Key.{rank}
use Rattle.st_tally.specs.inner.Sums.{Sums}
use Rattle.st_tally.proofs.Placing.{differ_set}
use Rattle.st_ubtree.specs.inner.Evening.{Evens, KidsEven}
use Rattle.st_ubtree.specs.inner.Kids.{IsKid, pages_of}
use Rattle.st_ubtree.specs.inner.Nodes.{inner_node, node_value}
use Rattle.st_ubtree.proofs.Evening.{inner_evens, inner_stays, kids_even_one, node_same, rows_stay}
use Rattle.st_ubtree.proofs.Firsts.{firsts_set}
use Rattle.st_ubtree.proofs.Over.{IsKidFor, IsOver, is_over, kid_for, kid_lower}
use Rattle.st_ubtree.proofs.node.Node.+even.Given.{Over}
use Rattle.st_ubtree.proofs.node.Node.+even.Goals.{After-deref_mut-aside, After-index_mut-kid}
use Rattle.st_ubtree.proofs.node.Node.+even.Goals as goal

over : (g : Over) (t : ℕ) (c : After-deref_mut-aside g t) → IsOver c.self.inside c.in-Inner.kids c.deref_mut-aside.result.now c.args.self.now
over g t c = is_over c.self.inside c.in-Inner.is c.deref_mut-aside.ensures.value c.self.invariant c.self.view_is

chosen : (g : Over) (t : ℕ) (c : After-index_mut-kid g t)
    → IsKidFor (rank c.args.key) c.self.inside c.in-Inner.kids c.deref_mut-aside.result.now c.args.self.now c.child_for-at.result c.index_mut-kid.result.now
chosen g t c =
    kid_for (is_over c.self.inside c.in-Inner.is c.deref_mut-aside.ensures.value c.self.invariant c.self.view_is) c.child_for-at.ensures c.index_mut-kid.ensures.value

pub even-requires : goal.even-requires
even-requires g t c κs within = (search (rules, kid_lower (chosen g t (goal.at.even-requires g t c).After-index_mut-kid)), within)

pub even_at-requires-clause-pages : goal.even_at-requires-clause-pages
even_at-requires-clause-pages g t c =
    let o = over g t (goal.at.even_at-requires-clause-pages g t c).After-deref_mut-aside in
    let none : o.good.below ≡ 0 = omega (arith, c.if-self-eq1.true, o.good.higher) in
    subst (λ n. All (IsKid n) c.in-Inner.kids.items) none o.good.each

pub even_at-requires-clause-at : goal.even_at-requires-clause-at
even_at-requires-clause-at g t c =
    let o = over g t (goal.at.even_at-requires-clause-at g t c).After-deref_mut-aside in
    (c.child_for-at.ensures c.in-Inner.kids.items o.good.not_less o.firsts).within

pub invariant_of-self-2 : goal.invariant_of-self-2
invariant_of-self-2 g t c =
    let k = chosen g t (goal.at.invariant_of-self-2 g t c).After-index_mut-kid in
    let kids = c.in-Inner.kids.items in
    let i = c.child_for-at.result in
    let kid = c.index_mut-kid.result.now in
    let v = c.even.new.self in
    let evens = kids_even_one k.over.good.below kids i kid v k.chosen.within k.read k.over.good.each c.even.ensures in (
      inner_stays (rank c.self.inside.first) c.self.inside.height (vec_capacity c.in-Inner.kids) _ kids (set kids i v) k.over.good k.over.good.room evens,
      subst (Sums c.self.inside.sum) (sym (rows_stay (pages_of kids) (pages_of (set kids i v)) evens.by)) k.over.sums,
      c.clear_page.ensures kids (set kids i v) (differ_set kids i v) k.over.marked,
      firsts_set c.deref_mut-aside.result.now.firsts kids i kid v k.read c.even.ensures.keeps.first k.over.firsts,
    )

pub invariant_of-self-then-self-eq1 : goal.invariant_of-self-then-self-eq1
invariant_of-self-then-self-eq1 g t c =
    let o = over g t (goal.at.invariant_of-self-then-self-eq1 g t c).After-deref_mut-aside in
    let kids = c.in-Inner.kids.items in
    let new = c.even_at.new.kids.items in
    let none : 0 ≡ o.good.below = omega (arith, c.if-self-eq1.true, o.good.higher) in
    let evens : KidsEven o.good.below kids new = subst (λ n. KidsEven n kids new) none c.even_at.ensures.evens in (
      inner_stays (rank c.self.inside.first) c.self.inside.height (vec_capacity c.in-Inner.kids) _ kids new o.good c.even_at.ensures.room evens,
      subst (Sums c.self.inside.sum) (sym (rows_stay (pages_of kids) (pages_of new) evens.by)) o.sums,
      c.even_at.ensures.marks o.marked,
      c.even_at.ensures.firsts o.firsts,
    )

pub returns : goal.returns
returns g t c =
    let k = chosen g t (goal.at.returns g t c).After-index_mut-kid in
    let first = rank c.self.inside.first in
    let kids = c.in-Inner.kids.items in
    let new = set kids c.child_for-at.result c.even.new.self in
    let evens = kids_even_one k.over.good.below kids c.child_for-at.result c.index_mut-kid.result.now c.even.new.self k.chosen.within k.read k.over.good.each c.even.ensures in
    subst (λ w. Evens w (inner_node first c.self.inside.height new)) k.over.seen
    (inner_evens first c.self.inside.height k.over.good.below kids new k.over.good.head evens)

pub returns-then-self-eq1 : goal.returns-then-self-eq1
returns-then-self-eq1 g t c =
    let o = over g t (goal.at.returns-then-self-eq1 g t c).After-deref_mut-aside in
    let first = rank c.self.inside.first in
    let new = c.even_at.new.kids.items in
    subst (λ w. Evens w (inner_node first c.self.inside.height new)) o.seen
    (inner_evens first c.self.inside.height 0 c.in-Inner.kids.items new o.good.head c.even_at.ensures.evens)

pub returns-in_default : goal.returns-in_default
returns-in_default g t c =
    subst (λ w. Evens w (node_value (rank c.self.inside.first) c.self.inside.height c.self.inside.kids)) c.self.view_is
    (node_same (node_value (rank c.self.inside.first) c.self.inside.height c.self.inside.kids))
