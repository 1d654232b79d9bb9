use Rattle.std.proofs.Common.{◌∙◌, arith}
use Rattle.st_key.specs.Key.{rank}
use Rattle.st_index.specs.inner.Entries.{name_of, key_end, rank_of}
use Rattle.st_index.specs.inner.Index.{Holds}
use Rattle.st_index.proofs.Taking.{absent_held}
use Rattle.st_tally.specs.inner.Pages.{rows_of_pages}
use Rattle.st_ubtree.proofs.Lawful.{lawful_tree, tree_trades}
use Rattle.st_ubtree.specs.inner.Tree.{IsTree}
use Rattle.st_ubtree.proofs.tree.UbTreeRowIndex.replace.Given.{Over}
use Rattle.st_ubtree.proofs.tree.UbTreeRowIndex.replace.Goals.{After-count_keys}
use Rattle.st_ubtree.proofs.tree.UbTreeRowIndex.replace.Goals as goal

pub unreachable-requires : goal.unreachable-requires
unreachable-requires g c =
    let p = c.self.inside.period in
    let absent = c.in_default.ensures.absent p 0 (key_end p) c.self.invariant.spans (omega arith) c.key-key.ensures.in_period in
    let held : Holds p (rank_of p c.args.row) (name_of c.args.row) (rows_of_pages c.self.inside.root.pages) = rw (← c.self.view_is) at c.requires in
    absent_held p _ _ _ held (rw c.key-key.ensures.value at absent)

-- the tree that it is now
trades : (g : Over) (c : After-count_keys g) → IsTree c.self.inside.period c.replace.new.self c.self.inside.len
trades g c =
    let keeps = c.in-Ok.ensures.keeps in
    tree_trades c.self.inside.period (rank c.key-key.result) c.args.row c.self.inside.root c.replace.new.self c.self.inside.len c.self.invariant
    (λ tall. omega (arith, keeps.width, c.self.invariant.wide (omega (arith, keeps.height, tall)))) c.count_keys.ensures.keys c.in-Ok.out c.in-Ok.ensures.ok
    c.key-key.ensures.value

pub returns-clause-lawful : goal.returns-clause-lawful
returns-clause-lawful g c =
    lawful_tree c.self.inside.period c.replace.new.self c.self.inside.len (trades g (goal.at.returns-clause-lawful g c).After-count_keys)

pub invariant_of-self : goal.invariant_of-self
invariant_of-self g c = trades g (goal.at.invariant_of-self g c).After-count_keys

pub returns-clause-swaps : goal.returns-clause-swaps
returns-clause-swaps g c = rw (← c.self.view_is) c.in-Ok.ensures.ok.swaps

pub returns-clause-placed : goal.returns-clause-placed
returns-clause-placed g c =
    let p = c.self.inside.period in
    rw (← c.self.view_is) (c.in-Ok.ensures.ok.placed p 0 (key_end p) c.self.invariant.spans ∙ c.key-key.ensures.value)
