use Rattle.std.proofs.Common.{◌+◌, ◌<◌, ◌∷◌, ℕ, set, length, length-append, length-set, sym, ap, subst, ◌∙◌, arith}
use Rattle.std.proofs.lemmas.List.Edits.{length-remove}
use Rattle.st_tally.specs.inner.Pages.{NodeValue}
use Rattle.st_tally.specs.inner.Marks.{AreMarked, ClosesAt}
use Rattle.st_tally.proofs.Placing.{closes_remove, differ_set}
use Rattle.st_ubtree.specs.inner.Firsts.{AreFirsts}
use Rattle.st_ubtree.specs.inner.Shrinking.{AreWorn}
use Rattle.st_ubtree.proofs.Evening.{pair_set}
use Rattle.st_ubtree.proofs.Firsts.{firsts_set}
use Rattle.st_ubtree.proofs.Mending.{Paired, joins_worn, mends_alone, mends_both, mends_none, pair_closed, paired, worn_is}
use Rattle.st_ubtree.proofs.node.join.mend.Given.{Over}
use Rattle.st_ubtree.proofs.node.join.mend.Goals.{After-pair_of-left, After-remove_at, After-index_mut-kid}
use Rattle.st_ubtree.proofs.node.join.mend.Goals as goal

within : (g : Over) (c : After-pair_of-left g) → c.pair_of-left.result + 1 < length c.args.kids.now.items
within g c = subst (λ ks. c.pair_of-left.result + 1 < length ks) c.as_slice.ensures.value c.pair_of-left.ensures.within

-- the two that are evened
pair : (g : Over) (c : After-index_mut-kid g) (below : ℕ) → AreWorn below c.args.at c.args.kids.now.items
    → Paired below c.pair_of-left.result 47 c.args.kids.now.items c.remove-right.new.self.items c.index_mut-kid.result.now c.remove-right.result
pair g c below worn =
    let fits = subst (λ ks. c.pair_of-left.result + 1 < length ks) c.as_slice.ensures.value c.pair_of-left.ensures.within in
    paired below c.args.at c.pair_of-left.result c.args.kids.now.items c.remove-right.new.self.items worn c.index-kid.result.now c.index_mut-kid.result.now
    c.remove-right.result c.index-kid.ensures (omega (arith, c.if-width-ge16.false, c.width.ensures)) fits c.pair_of-left.ensures.beside
    c.remove-right.ensures.items c.remove-right.ensures.value c.index_mut-kid.ensures.value

pub returns-in_default-clause-mends : goal.returns-in_default-clause-mends
returns-in_default-clause-mends g c = λ below w.
    mends_alone (pair g (goal.at.returns-in_default-clause-mends g c).After-index_mut-kid below w) c.join.new.self c.in_default.ensures.joins

pub returns-clause-mends : goal.returns-clause-mends
returns-clause-mends g c = λ below w.
    let q = pair g (goal.at.returns-clause-mends g c).After-index_mut-kid below w in
    rw c.in-Ok.ensures.items (mends_both q c.join.new.self c.in-Some.right c.in-Some.ensures.joins)

pub join-requires-clause-worn : goal.join-requires-clause-worn
join-requires-clause-worn g c = (joins_worn (pair g (goal.at.join-requires-clause-worn g c).After-index_mut-kid c.requires.worn.0 c.requires.worn.1)).0

pub join-requires-clause-right : goal.join-requires-clause-right
join-requires-clause-right g c = (joins_worn (pair g (goal.at.join-requires-clause-right g c).After-index_mut-kid c.requires.worn.0 c.requires.worn.1)).1

pub join-requires-clause-both : goal.join-requires-clause-both
join-requires-clause-both g c = (joins_worn (pair g (goal.at.join-requires-clause-both g c).After-index_mut-kid c.requires.worn.0 c.requires.worn.1)).2

pub returns-then-width-ge16-clause-mends : goal.returns-then-width-ge16-clause-mends
returns-then-width-ge16-clause-mends g c = λ below w.
    let same = ap (λ (v : NodeValue g.row.A.Denot). v.width) (worn_is below c.args.at c.args.kids.now.items w c.index-kid.result.now c.index-kid.ensures) in
    mends_none below c.args.at c.args.kids.now.items w (omega (arith, same, c.if-width-ge16.true, c.width.ensures))

pub returns-in_default-clause-marks : goal.returns-in_default-clause-marks
returns-in_default-clause-marks g c = λ marked.
    let q = pair g (goal.at.returns-in_default-clause-marks g c).After-index_mut-kid c.requires.worn.0 c.requires.worn.1 in
    let kids = c.args.kids.now.items in
    let left = c.pair_of-left.result in
    let v = c.join.new.self in
    let mid = set kids left v in
    let fits = within g (goal.at.returns-in_default-clause-marks g c).After-pair_of-left in
    let closes = subst (ClosesAt (left + 1) mid) (pair_closed q v) (closes_remove mid (left + 1) (omega (arith, fits, length-set kids left v))) in
    c.close.ensures mid (set c.remove-right.new.self.items left v) closes (c.clear_page.ensures kids mid (differ_set kids left v) marked)

pub returns-clause-marks : goal.returns-clause-marks
returns-clause-marks g c = λ marked.
    let q = pair g (goal.at.returns-clause-marks g c).After-index_mut-kid c.requires.worn.0 c.requires.worn.1 in
    let kids = c.args.kids.now.items in
    let left = c.pair_of-left.result in
    let v = c.join.new.self in
    let s = c.in-Some.right in
    let mid = set kids left v in
    let both = set mid (left + 1) s in
    let one = c.clear_page.ensures kids mid (differ_set kids left v) marked in
    let two = c.clear_page-2.ensures mid both (differ_set mid (left + 1) s) one in
    subst (AreMarked c.shift.new.self) (pair_set q v s ∙ sym c.in-Ok.ensures.items) (c.shift.ensures both two)

-- the first keys, as the second of the two is taken out
firsts : (g : Over) (c : After-remove_at g) → AreFirsts c.args.aside.now.firsts c.args.kids.now.items → AreFirsts c.remove_at.new.self c.remove-right.new.self.items
firsts g c h =
    let fits = subst (λ ks. c.pair_of-left.result + 1 < length ks) c.as_slice.ensures.value c.pair_of-left.ensures.within in
    subst (AreFirsts c.remove_at.new.self) (sym c.remove-right.ensures.items) (c.remove_at.ensures c.args.kids.now.items fits h)

pub returns-in_default-clause-firsts : goal.returns-in_default-clause-firsts
returns-in_default-clause-firsts g c = λ h.
    firsts_set c.remove_at.new.self c.remove-right.new.self.items c.pair_of-left.result c.index_mut-kid.result.now c.join.new.self
    c.index_mut-kid.ensures.value c.in_default.ensures.joins.first (firsts g (goal.at.returns-in_default-clause-firsts g c).After-remove_at h)

pub returns-clause-firsts : goal.returns-clause-firsts
returns-clause-firsts g c = λ h.
    let left = c.pair_of-left.result in
    let rest = c.remove-right.new.self.items in
    let fits = within g (goal.at.returns-clause-firsts g c).After-pair_of-left in
    let fewer = length-remove c.args.kids.now.items (left + 1) fits in
    let count = ap length c.remove-right.ensures.items in
    let same = length-set rest left c.join.new.self in
    let kept = firsts_set c.remove_at.new.self rest left c.index_mut-kid.result.now c.join.new.self c.index_mut-kid.ensures.value c.in-Some.ensures.joins.first
    (firsts g (goal.at.returns-clause-firsts g c).After-remove_at h) in
    subst (AreFirsts c.insert_at.new.self) (sym c.in-Ok.ensures.items)
    (c.insert_at.ensures (set rest left c.join.new.self) (omega (arith, fits, fewer, count, same)) (omega (arith, c.requires.not_more, fewer, count, same)) kept)

pub pair_of-left-requires-clause-at : goal.pair_of-left-requires-clause-at
pair_of-left-requires-clause-at g c =
    let w = c.requires.worn.1 in
    omega (arith, ap length (c.as_slice.ensures.value ∙ w.is) ∙ length-append w.front (w.kid ∷ w.back), w.stands)
