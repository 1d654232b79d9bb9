use Rattle.std.proofs.Common.{◌+◌, ◌≤◌, ap, arith}
use Rattle.st_key.specs.Key.{rank}
use Rattle.st_index.specs.inner.Entries.{name_of}
use Rattle.st_index.specs.inner.Index.{IsAbsent}
use Rattle.st_tally.specs.inner.Pages.{rows_of_pages}
use Rattle.st_ubtree.specs.inner.Evening.{Evens}
use Rattle.st_ubtree.specs.inner.Growing.{AreAround, IsBlankPage}
use Rattle.st_ubtree.specs.inner.Kids.{GrowsBy}
use Rattle.st_ubtree.specs.inner.Splits.{made_nodes, splits}
use Rattle.st_ubtree.proofs.Evening.{made_more, reshaped_around, reshaped_grows}
use Rattle.st_ubtree.proofs.Lawful.{lawful_tree, tree_around, tree_grows}
use Rattle.st_ubtree.proofs.Needing.{held_made}
use Rattle.st_ubtree.proofs.tree.UbTreeRowIndex.insert.Given.{Over}
use Rattle.st_ubtree.proofs.tree.UbTreeRowIndex.insert.Goals.{After-even_if, After-put}
use Rattle.st_ubtree.proofs.tree.UbTreeRowIndex.insert.Goals as goal

evens : (g : Over) (c : After-even_if g) → Evens c.self.inside.root c.even_if.new.self
evens g c = rw c.widen_if.ensures at c.even_if.ensures

around : (g : Over) (c : After-even_if g) → AreAround (rank c.key-key.result) c.self.inside.root.pages
around g c = tree_around c.self.inside.period (rank c.key-key.result) c.self.inside.root c.self.inside.len c.self.invariant c.key-key.ensures.in_period

grows : (g : Over) (c : After-put g) → GrowsBy (rank c.key-key.result) c.args.row c.self.inside.root.pages c.put.new.self.pages
grows g c =
    let even : Evens c.self.inside.root c.even_if.new.self = rw c.widen_if.ensures at c.even_if.ensures in
    reshaped_grows (rank c.key-key.result) c.args.row c.self.inside.root.pages c.even_if.new.self.pages c.put.new.self.pages even.by c.put.ensures.grows

pub put-requires-clause-around : goal.put-requires-clause-around
put-requires-clause-around g c =
    let even = (goal.at.put-requires-clause-around g c).After-even_if in
    reshaped_around (rank c.key-key.result) c.self.inside.root.pages c.even_if.new.self.pages (evens g even).by (around g even)

pub put-requires-clause-page : goal.put-requires-clause-page
put-requires-clause-page g c = λ some.
    let even = (goal.at.put-requires-clause-page g c).After-even_if in
    let page : 1 ≤ splits c.self.inside.root (rank c.key-key.result) → IsBlankPage c.args.spare.page = rw c.key-key.ensures.value (rw (← c.self.view_is) at c.requires.room.page) in
    page (omega (arith, some, (evens g even).splits (rank c.key-key.result) (around g even)))

pub put-requires-clause-enough : goal.put-requires-clause-enough
put-requires-clause-enough g c =
    let even = (goal.at.put-requires-clause-enough g c).After-even_if in
    let key = rank c.key-key.result in
    let root = c.self.inside.root in
    let now = c.even_if.new.self in
    let held = held_made c.args.spare.inners (made_nodes root.height (splits root key)) (rw c.key-key.ensures.value (rw (← c.self.view_is) at c.requires.room.inners)) in
    let more = made_more root.height (splits now key) (splits root key) ((evens g even).splits key (around g even)) in
    omega (arith, held, more, ap (λ h. made_nodes h (splits now key)) (evens g even).keeps.height)

pub put-requires-clause-wide : goal.put-requires-clause-wide
put-requires-clause-wide g c = λ tall.
    let keeps = (evens g (goal.at.put-requires-clause-wide g c).After-even_if).keeps in
    omega (arith, keeps.width, c.self.invariant.wide (omega (arith, keeps.height, tall)))

pub invariant_of-self : goal.invariant_of-self
invariant_of-self g c =
    let key = c.key-key.ensures.value in
    let root = c.self.inside.root in
    let absent : IsAbsent c.self.inside.period (rank c.key-key.result) (name_of c.args.row) (rows_of_pages root.pages) = rw key (rw (← c.self.view_is) at c.requires.absent) in
    let more = grows g (goal.at.invariant_of-self g c).After-put in
    tree_grows c.self.inside.period (rank c.key-key.result) c.args.row root c.widen_if-2.new.self c.self.inside.len c.self.invariant
    (rw (← c.widen_if-2.ensures) at c.put.ensures.wide) c.count_keys.ensures.keys (rw (← c.widen_if-2.ensures) at more) key
    c.key-key.ensures.in_period absent (rw (← c.self.view_is) at c.requires.room.count)

pub returns-clause-lawful : goal.returns-clause-lawful
returns-clause-lawful g c = lawful_tree c.self.inside.period c.widen_if-2.new.self (c.self.inside.len + 1) (invariant_of-self g c)

pub overflow_add-self : goal.overflow_add-self
overflow_add-self g c =
    let room = rw (← c.self.view_is) at c.requires.room.count in
    omega (arith, c.self.invariant.counted, room)

pub returns-clause-adds : goal.returns-clause-adds
returns-clause-adds g c = rw (← c.self.view_is, c.widen_if-2.ensures) (grows g (goal.at.returns-clause-adds g c).After-put).adds
