use Rattle.std.proofs.Common.{◌-◌, inl, inr, subst, sym, arith}
use Rattle.std.proofs.lemmas.Bool.{cases_lt}
use Rattle.st_key.specs.Key.{rank}
use Rattle.st_index.specs.inner.Entries.{key_end}
use Rattle.st_index.specs.inner.Index.{IsAbsent}
use Rattle.st_index.proofs.Listing.{adds_length}
use Rattle.st_tally.specs.inner.Pages.{rows_of_pages}
use Rattle.st_ubtree.specs.inner.Shrinking.{DropsFrom}
use Rattle.st_ubtree.proofs.Lawful.{absent_past, lawful_tree, tree_shrinks}
use Rattle.st_ubtree.specs.inner.Tree.{IsTree}
use Rattle.st_ubtree.proofs.tree.UbTreeRowIndex.remove.Given.{Over}
use Rattle.st_ubtree.proofs.tree.UbTreeRowIndex.remove.Goals.{After-count_keys}
use Rattle.st_ubtree.proofs.tree.UbTreeRowIndex.remove.Goals as goal

pub returns-in_err-row-clause-lawful : goal.returns-in_err-row-clause-lawful
returns-in_err-row-clause-lawful g c = rw c.in_err-row.ensures.none (lawful_tree c.self.inside.period c.self.inside.root c.self.inside.len c.self.invariant)

-- the tree that it is now
shrinks : (g : Over) (c : After-count_keys g) → IsTree c.self.inside.period c.lower.new.self (c.self.inside.len - 1)
shrinks g c =
    let drops = subst (DropsFrom (rank c.args.key) c.in_ok-row.row c.self.inside.root.pages) (sym c.lower.ensures.pages) c.in_ok-row.ensures.some.by in
    tree_shrinks c.self.inside.period (rank c.args.key) c.in_ok-row.row c.self.inside.root c.lower.new.self c.self.inside.len c.self.invariant
    c.lower.ensures.wide c.count_keys.ensures.keys drops

pub returns-clause-lawful : goal.returns-clause-lawful
returns-clause-lawful g c =
    lawful_tree c.self.inside.period c.lower.new.self (c.self.inside.len - 1) (shrinks g (goal.at.returns-clause-lawful g c).After-count_keys)

pub returns-in_err-row-clause-absent : goal.returns-in_err-row-clause-absent
returns-in_err-row-clause-absent g c =
    let p = c.self.inside.period in
    let key = rank c.args.key in
    let pages = c.self.inside.root.pages in
    let absent : IsAbsent p key (record { id = c.args.id.now; label = c.args.label.now }) (rows_of_pages pages) =
    elim (cases_lt key (key_end p)) [
      | inl below ↦ c.in_err-row.ensures.absent p 0 (key_end p) c.self.invariant.spans (omega arith) below
      | inr past ↦ absent_past p key (key_end p) (record { id = c.args.id.now; label = c.args.label.now }) pages c.self.invariant.spans past
    ] in
    rw (c.from_residual.ensures, ← c.self.view_is) absent

pub invariant_of-self-2 : goal.invariant_of-self-2
invariant_of-self-2 g c = shrinks g (goal.at.invariant_of-self-2 g c).After-count_keys

pub overflow_sub-self : goal.overflow_sub-self
overflow_sub-self g c =
    let more = adds_length c.in_ok-row.row (rows_of_pages c.remove.new.self.pages) (rows_of_pages c.self.inside.root.pages) c.in_ok-row.ensures.some.by.adds in
    omega (arith, c.self.invariant.counted, more)
