use Rattle.std.proofs.Common.{◌≡◌, ◌<◌, map, subst, ap, arith}
use Rattle.st_key.specs.Key.{rank}
use Rattle.st_index.specs.inner.Entries.{key_end}
use Rattle.st_index.proofs.Listing.{some_keys}
use Rattle.st_ubtree.specs.inner.Ranges.{region_in}
use Rattle.st_ubtree.specs.inner.Trees.{TreeValue, regions_of}
use Rattle.st_ubtree.proofs.Lawful.{spans_follow}
use Rattle.st_ubtree.proofs.Walking.{IsWalked, Walks, left_less, walks_first, walks_on}
use Rattle.st_ubtree.proofs.tree.UbTree.regions.Given.{Over}
use Rattle.st_ubtree.proofs.tree.UbTree.regions.Goals.{In-Some}
use Rattle.st_ubtree.proofs.tree.UbTree.regions.Goals as goal

same : (g : Over) (c : In-Some g) → c.self.inside.period ≡ c.args.self.now.period
same g c = ap (λ (t : TreeValue g.row.A.Denot). t.period) c.self.view_is

-- what was gone over, and what is left from the key on
walked : (g : Over) (c : In-Some g) → IsWalked (key_end c.args.self.now.period) (regions_of (key_end c.args.self.now.period) c.args.self.now.root.pages)
    (map region_in c.loop-next.ranges.items) (rank c.in-Some.key)
walked g c =
    let hi = key_end c.args.self.now.period in
    subst (Walks hi (regions_of hi c.args.self.now.root.pages) (map region_in c.loop-next.ranges.items)) c.in-Some.is c.loop-next.invariant

pub loop-next-init : goal.loop-next-init
loop-next-init g c =
    let p = c.self.inside.period in
    rw (c.new-ranges.ensures.items, ← c.self.view_is)
    (walks_first (key_end p) (regions_of (key_end p) c.self.inside.root.pages)
    (spans_follow p 0 (key_end p) c.self.inside.root.pages c.self.invariant.spans) (some_keys p))

pub leaf_at-leaf-requires : goal.leaf_at-leaf-requires
leaf_at-leaf-requires g c = (walked g (goal.at.leaf_at-leaf-requires g c).In-Some).below

pub loop-next-smaller : goal.loop-next-smaller
loop-next-smaller g c =
    let some = (goal.at.loop-next-smaller g c).In-Some in
    let period = same g some in
    rw c.in-Some.is (left_less c.args.self.now.period c.in-Some.key c.leaf_at-leaf.result.last c.after-next.result (walked g some).below
    c.leaf_at-leaf.ensures.leaf.to c.after-next.ensures.rank (rw period at c.after-next.ensures.in_period))

pub loop-next-preserved : goal.loop-next-preserved
loop-next-preserved g c =
    let some = (goal.at.loop-next-preserved g c).In-Some in
    let period = same g some in
    let p = c.args.self.now.period in
    rw c.in_ok-push.ensures.items
    (walks_on p (regions_of (key_end p) c.args.self.now.root.pages) c.loop-next.ranges.items c.in-Some.key
    (record { first = c.leaf_at-leaf.result.first; last = c.leaf_at-leaf.result.last })
    c.after-next.result (walked g some) c.leaf_at-leaf.ensures.of_regions c.leaf_at-leaf.ensures.leaf.from c.leaf_at-leaf.ensures.leaf.to
    (rw period at c.after-next.ensures.last) c.after-next.ensures.rank (rw period at c.after-next.ensures.in_period))

pub returns : goal.returns
returns g c =
    let hi = key_end c.args.self.now.period in
    subst (Walks hi (regions_of hi c.args.self.now.root.pages) (map region_in c.loop-next.ranges.items)) c.in_default.is c.loop-next.invariant

pub after-next-requires : goal.after-next-requires
after-next-requires g c =
    let period = same g (goal.at.after-next-requires g c).In-Some in
    let within : rank c.leaf_at-leaf.result.last < key_end c.self.inside.period = rw period c.leaf_at-leaf.ensures.leaf.within in
    omega (arith, within)
