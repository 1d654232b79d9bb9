use Rattle.std.proofs.Common.{ℕ, subst, ap, refl, arith, length, rules}
use Rattle.st_key.specs.Key.{rank}
use Rattle.st_tally.specs.inner.Pages.{NodeValue}
use Rattle.st_ubtree.specs.inner.Kids.{StartsAt, pages_of}
use Rattle.st_ubtree.proofs.Leaves.{node_starts, part_all, part_of_part}
use Rattle.st_ubtree.proofs.Over.{IsOver, each_in, is_over, lower_in, pages_in}
use Rattle.st_ubtree.proofs.node.Node.+lowest_at.Given.{Over}
use Rattle.st_ubtree.proofs.node.Node.+lowest_at.Goals.{In-Inner}
use Rattle.st_ubtree.proofs.node.Node.+lowest_at.Goals as goal

over : (g : Over) (t : ℕ) (c : In-Inner g t) → IsOver c.self.inside c.in-Inner.kids c.in-Inner.aside.value c.args.self.now
over g t c = is_over c.self.inside c.in-Inner.is refl c.self.invariant c.self.view_is

pub lowest_at-requires : goal.lowest_at-requires
lowest_at-requires g t c κs within =
    let o = over g t (goal.at.lowest_at-requires g t c).In-Inner in
    (search (rules, lower_in o c.child_at.result.0.now.height (c.child_at.ensures.lower o.good.below (each_in o c.as_slice.ensures.value))), within)

pub returns-in-Inner : goal.returns-in-Inner
returns-in-Inner g t c =
    let o = over g t (goal.at.returns-in-Inner g t c).In-Inner in
    let kid = c.child_at.result.0.now in
    let node = c.lowest_at.result.0.now in
    rw (pages_in o c.as_slice.ensures.value)
    (part_of_part (rank c.args.key) (rank c.args.last) kid.first (rank c.child_at.result.1) node.first (rank c.lowest_at.result.1)
    (pages_of c.as_slice.result.now) kid.pages node.pages (c.child_at.ensures.part o.good.below (each_in o c.as_slice.ensures.value)) c.lowest_at.ensures)

pub returns-in_default : goal.returns-in_default
returns-in_default g t c =
    let starts : StartsAt c.args.self.now.first c.args.self.now.pages =
    subst (λ (v : NodeValue g.row.A.Denot). StartsAt v.first v.pages) c.self.view_is
    (node_starts (rank c.self.inside.first) c.self.inside.height c.self.inside.kids c.self.invariant.0) in
    part_all (rank c.args.key) (rank c.args.last) c.args.self.now.first c.args.self.now.pages starts

pub child_at-requires-clause-some : goal.child_at-requires-clause-some
child_at-requires-clause-some g t c =
    omega (arith, (over g t (goal.at.child_at-requires-clause-some g t c).In-Inner).good.not_less, ap length c.as_slice.ensures.value)
