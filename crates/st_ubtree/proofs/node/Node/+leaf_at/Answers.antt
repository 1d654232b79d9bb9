use Rattle.std.proofs.Common.{[], ◌∷◌, ℕ, ap, refl, arith, length, rules}
use Rattle.st_key.specs.Key.{rank}
use Rattle.st_ubtree.specs.inner.Kids.{pages_of}
use Rattle.st_ubtree.proofs.Leaves.{part_all, part_of_part}
use Rattle.st_ubtree.proofs.Over.{IsOver, each_in, is_over, is_page, lower_in, page_pages, pages_in}
use Rattle.st_ubtree.proofs.Splitting.{page}
use Rattle.st_ubtree.proofs.node.Node.+leaf_at.Given.{Over}
use Rattle.st_ubtree.proofs.node.Node.+leaf_at.Goals.{In-Inner}
use Rattle.st_ubtree.proofs.node.Node.+leaf_at.Goals as goal

over : (g : Over) (t : ℕ) (c : In-Inner g t) → IsOver c.self.inside c.in-Inner.kids c.in-Inner.aside.value c.args.self.now
over g t c = is_over c.self.inside c.in-Inner.is refl c.self.invariant c.self.view_is

pub leaf_at-requires : goal.leaf_at-requires
leaf_at-requires g t c κs within =
    let o = over g t (goal.at.leaf_at-requires g t c).In-Inner in
    (search (rules, lower_in o c.child_at.result.0.now.height (c.child_at.ensures.lower o.good.below (each_in o c.as_slice-in-Inner.ensures.value))), within)

pub returns-in-Page : goal.returns-in-Page
returns-in-Page g t c =
    rw (page_pages (is_page c.self.inside c.in-Page.is c.self.invariant c.self.view_is), c.as_slice.ensures.value)
    (part_all (rank c.args.key) (rank c.args.last) (rank c.self.inside.first) (page (rank c.self.inside.first) c.in-Page.entries.items ∷ []) refl)

pub returns-in-Inner : goal.returns-in-Inner
returns-in-Inner g t c =
    let o = over g t (goal.at.returns-in-Inner g t c).In-Inner in
    let kid = c.child_at.result.0.now in
    let leaf = page (rank c.leaf_at.result.first) c.leaf_at.result.entries.now ∷ [] in
    rw (pages_in o c.as_slice-in-Inner.ensures.value)
    (part_of_part (rank c.args.key) (rank c.args.last) kid.first (rank c.child_at.result.1) (rank c.leaf_at.result.first) (rank c.leaf_at.result.last)
    (pages_of c.as_slice-in-Inner.result.now) kid.pages leaf
    (c.child_at.ensures.part o.good.below (each_in o c.as_slice-in-Inner.ensures.value)) c.leaf_at.ensures)

pub child_at-requires-clause-some : goal.child_at-requires-clause-some
child_at-requires-clause-some g t c =
    omega (arith, (over g t (goal.at.child_at-requires-clause-some g t c).In-Inner).good.not_less, ap length c.as_slice-in-Inner.ensures.value)
