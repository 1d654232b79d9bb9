use Rattle.std.proofs.Common.{◌+◌, length, length-set, set, sym, ap, subst, ◌∙◌, arith}
use Rattle.std.proofs.lemmas.List.Edits.{length-remove}
use Rattle.std.specs.List.{All}
use Rattle.st_tally.specs.inner.Marks.{AreMarked}
use Rattle.st_tally.proofs.Placing.{differ_set}
use Rattle.st_ubtree.specs.inner.Evening.{HasPairAt}
use Rattle.st_ubtree.specs.inner.Firsts.{AreFirsts}
use Rattle.st_ubtree.specs.inner.Kids.{IsKid}
use Rattle.st_ubtree.proofs.Evening.{any_pair, kids_even_pair, pair_fits, pair_joins, pair_kids, pair_set}
use Rattle.st_ubtree.proofs.Firsts.{firsts_set}
use Rattle.st_ubtree.proofs.Mending.{Paired, taken_pair}
use Rattle.st_ubtree.proofs.node.even.even_at.Given.{Over}
use Rattle.st_ubtree.proofs.node.even.even_at.Goals.{In-Some, After-index_mut-kid}
use Rattle.st_ubtree.proofs.node.even.even_at.Goals as goal

there : (g : Over) (c : In-Some g) → HasPairAt c.args.kids.now.items c.in-Some.left
there g c = subst (λ ks. HasPairAt ks c.in-Some.left) c.as_slice.ensures.value c.in-Some.ensures

-- the two that are evened
pair : (g : Over) (c : After-index_mut-kid g)
    → Paired 0 c.in-Some.left 64 c.args.kids.now.items c.remove-right.new.self.items c.index_mut-kid.result.now c.remove-right.result
pair g c =
    let fits = (subst (λ ks. HasPairAt ks c.in-Some.left) c.as_slice.ensures.value c.in-Some.ensures).0 in
    taken_pair 0 c.in-Some.left c.args.kids.now.items c.remove-right.new.self.items c.index_mut-kid.result.now c.remove-right.result
    (any_pair 0 c.in-Some.left c.args.kids.now.items c.requires.pages fits) c.remove-right.ensures.items c.remove-right.ensures.value c.index_mut-kid.ensures.value

pub halve-right-requires-clause-both : goal.halve-right-requires-clause-both
halve-right-requires-clause-both g c =
    pair_fits (pair g (goal.at.halve-right-requires-clause-both g c).After-index_mut-kid) (there g (goal.at.halve-right-requires-clause-both g c).In-Some)

pub returns-clause-evens : goal.returns-clause-evens
returns-clause-evens g c =
    let q = pair g (goal.at.returns-clause-evens g c).After-index_mut-kid in
    let v = c.halve-right.new.self in
    let s = c.halve-right.result in
    rw c.in-Ok.ensures.items
    (kids_even_pair q v s c.requires.pages (pair_joins q v s c.halve-right.ensures.joins) c.halve-right.ensures.left c.halve-right.ensures.right)

pub returns-clause-marks : goal.returns-clause-marks
returns-clause-marks g c = λ marked.
    let q = pair g (goal.at.returns-clause-marks g c).After-index_mut-kid in
    let kids = c.args.kids.now.items in
    let left = c.in-Some.left in
    let v = c.halve-right.new.self in
    let s = c.halve-right.result in
    let mid = set kids left v in
    let one = c.clear_page.ensures kids mid (differ_set kids left v) marked in
    let two = c.clear_page-2.ensures mid (set mid (left + 1) s) (differ_set mid (left + 1) s) one in
    let three = c.shift.ensures (set mid (left + 1) s) two in
    let new : AreMarked c.shift.new.self c.insert.new.self.items = subst (AreMarked c.shift.new.self) (pair_set q v s ∙ sym c.in-Ok.ensures.items) three in
    subst (AreMarked c.mark_near.new.marks) c.as_slice-2.ensures.value (c.mark_near.ensures (subst (AreMarked c.shift.new.self) (sym c.as_slice-2.ensures.value) new))

pub returns-clause-firsts : goal.returns-clause-firsts
returns-clause-firsts g c = λ h.
    let left = c.in-Some.left in
    let rest = c.remove-right.new.self.items in
    let v = c.halve-right.new.self in
    let fits = (there g (goal.at.returns-clause-firsts g c).In-Some).0 in
    let fewer = length-remove c.args.kids.now.items (left + 1) fits in
    let count = ap length c.remove-right.ensures.items in
    let same = length-set rest left v in
    let firsts = subst (AreFirsts c.remove_at.new.self) (sym c.remove-right.ensures.items) (c.remove_at.ensures c.args.kids.now.items fits h) in
    let kept = firsts_set c.remove_at.new.self rest left c.index_mut-kid.result.now v c.index_mut-kid.ensures.value c.halve-right.ensures.joins.first firsts in
    subst (AreFirsts c.insert_at.new.self) (sym c.in-Ok.ensures.items)
    (c.insert_at.ensures (set rest left v) (omega (arith, fits, fewer, count, same)) (omega (arith, c.requires.not_more, fewer, count, same)) kept)

pub halve-right-requires-clause-right : goal.halve-right-requires-clause-right
halve-right-requires-clause-right g c = (pair_kids (pair g (goal.at.halve-right-requires-clause-right g c).After-index_mut-kid) c.requires.pages).1

pub halve-right-requires-clause-left : goal.halve-right-requires-clause-left
halve-right-requires-clause-left g c = (pair_kids (pair g (goal.at.halve-right-requires-clause-left g c).After-index_mut-kid) c.requires.pages).0

pub pair_for-requires-clause-pages : goal.pair_for-requires-clause-pages
pair_for-requires-clause-pages g c = subst (All (IsKid 0)) (sym c.as_slice.ensures.value) c.requires.pages

pub unreachable-requires : goal.unreachable-requires
unreachable-requires g c =
    omega (arith, c.in_default-insert.ensures.full, c.remove-right.ensures.len, c.remove-right.ensures.capacity, c.requires.room, c.requires.not_more, c.args.kids.now.ok.0)
