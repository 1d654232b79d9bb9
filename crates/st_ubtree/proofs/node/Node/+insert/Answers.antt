use Rattle.std.proofs.Common.{◌≡◌, ◌+◌, ◌<◌, ◌≤◌, ◌∷◌, ◌++◌, [], length, vec_capacity, rules, ℕ}
use Rattle.std.proofs.Common.{subst, sym, ap, ◌∙◌, take, set, arith, length-set}
use Rattle.st_key.specs.Key.{rank}
use Rattle.st_index.specs.inner.Entries.{rows_of}
use Rattle.st_index.specs.inner.Changes.{IsChange}
use Rattle.st_tally.specs.inner.Marks.{AreMarked, OpensAt}
use Rattle.st_tally.specs.inner.Pages.{entries_of_pages, page_node, rows_of_pages}
use Rattle.st_tally.specs.inner.Sums.{Sums}
use Rattle.st_tally.proofs.Marking.{none_holds, none_so}
use Rattle.st_tally.proofs.Placing.{differ_set, opens_insert}
use Rattle.st_tally.proofs.Summing.{sums_added}
use Rattle.st_ubtree.specs.inner.Firsts.{AreFirsts}
use Rattle.st_ubtree.specs.inner.Growing.{AreAround, IsRoomFor}
use Rattle.st_ubtree.specs.inner.Kids.{pages_of}
use Rattle.st_ubtree.specs.inner.Nodes.{inner_node}
use Rattle.st_ubtree.specs.inner.Splits.{splits}
use Rattle.st_ubtree.proofs.Firsts.{firsts_set, split_take}
use Rattle.st_ubtree.proofs.Halving.{held_at}
use Rattle.st_ubtree.proofs.Keeping.{kept_sums, split_same}
use Rattle.st_ubtree.proofs.Lifting.{IsParted, all_kids, all_wide, grown_inner, grows_alone, grows_split, inserted, parted_inner, room_for_kid, set_there, split_full}
use Rattle.st_ubtree.proofs.Needing.{kid_around, kid_fewer, kid_fills, page_around}
use Rattle.st_ubtree.proofs.Over.{IsKidFor, IsOver, IsPage, is_over, is_page, kid_for, kid_lower, kid_step, not_lowest, page_entries, page_low, page_pages, page_splits}
use Rattle.st_ubtree.proofs.Splitting.{one_rows, page_fits, page_node_grows}
use Rattle.st_ubtree.proofs.node.Node.+insert.Given.{Over}
use Rattle.st_ubtree.proofs.node.Node.+insert.Goals.{In-Page, After-deref_mut-aside, After-child_for-at, After-index_mut-kid, In-Ok}
use Rattle.st_ubtree.proofs.node.Node.+insert.Goals as goal

one_page : (g : Over) (t : ℕ) (c : In-Page g t) → IsPage c.self.inside c.in-Page.entries c.args.self.now
one_page g t c = is_page c.self.inside c.in-Page.is c.self.invariant c.self.view_is

over : (g : Over) (t : ℕ) (c : After-deref_mut-aside g t) → IsOver c.self.inside c.in-Inner.kids c.deref_mut-aside.result.now c.args.self.now
over g t c = is_over c.self.inside c.in-Inner.is c.deref_mut-aside.ensures.value c.self.invariant c.self.view_is

within : (g : Over) (t : ℕ) (c : After-child_for-at g t) → (c.child_for-at.result < length c.in-Inner.kids.items) × (length c.in-Inner.kids.items ≤ 32)
within g t c =
    let o = is_over c.self.inside c.in-Inner.is c.deref_mut-aside.ensures.value c.self.invariant c.self.view_is in
    ((c.child_for-at.ensures c.in-Inner.kids.items o.good.not_less o.firsts).within, o.good.not_more)

chosen : (g : Over) (t : ℕ) (c : After-index_mut-kid g t)
    → IsKidFor (rank c.args.key) c.self.inside c.in-Inner.kids c.deref_mut-aside.result.now c.args.self.now c.child_for-at.result c.index_mut-kid.result.now
chosen g t c =
    kid_for (is_over c.self.inside c.in-Inner.is c.deref_mut-aside.ensures.value c.self.invariant c.self.view_is) c.child_for-at.ensures c.index_mut-kid.ensures.value

parted : (g : Over) (t : ℕ) (c : In-Ok g t)
    → IsParted (rank c.args.key) c.args.row c.self.inside c.in-Inner.kids c.deref_mut-aside.result.now c.args.self.now c.child_for-at.result
    c.index_mut-kid.result.now c.insert.new.self c.in-Some.right c.insert-in-Inner.new.self.items
parted g t c =
    let k = kid_for (is_over c.self.inside c.in-Inner.is c.deref_mut-aside.ensures.value c.self.invariant c.self.view_is) c.child_for-at.ensures c.index_mut-kid.ensures.value in
    record {
      kid_for = k;
      grows = c.in-Some.ensures.grows;
      there = c.in-Ok.ensures.items ∙ inserted c.in-Inner.kids.items c.child_for-at.result c.insert.new.self c.in-Some.right _ k.chosen.within (omega arith);
    }

pub invariant_of-self : goal.invariant_of-self
invariant_of-self g t c =
    let p = one_page g t (goal.at.invariant_of-self g t c).In-Page in
    (record { lowest = p.good.lowest; not_more = page_fits (rank c.args.key) c.args.row _ _ _ c.put_in_page-split.ensures.grows; room = c.put_in_page-split.ensures.room }, c.renew_if.ensures, tt, tt)

pub returns-in-Page-clause-grows : goal.returns-in-Page-clause-grows
returns-in-Page-clause-grows g t c =
    let p = one_page g t (goal.at.returns-in-Page-clause-grows g t c).In-Page in
    rw (← p.seen) (page_node_grows (rank c.args.key) c.args.row (rank c.self.inside.first) c.self.inside.height c.in-Page.entries.items
    c.put_in_page-split.new.entries.items c.put_in_page-split.result p.good.lowest c.put_in_page-split.ensures.grows)

pub insert-requires : goal.insert-requires
insert-requires g t c κs within =
    let k = chosen g t (goal.at.insert-requires g t c).After-index_mut-kid in
    let fewer = kid_fewer k c.requires.around in
    let room = room_for_kid k c.args.rows.items (vec_capacity c.args.rows) c.requires.rows in
    let page = λ (s : 1 ≤ splits c.index_mut-kid.result.now (rank c.args.key)). c.requires.page (omega (arith, fewer, s)) in
    (search (rules, kid_lower k), (within, (c.requires.key, (room, (kid_around k c.requires.around, (page, (c.requires.blank, omega (arith, fewer, c.requires.enough))))))))

pub invariant_of-self-in_default : goal.invariant_of-self-in_default
invariant_of-self-in_default g t c =
    let kids = c.in-Inner.kids.items in
    let i = c.child_for-at.result in
    let k = chosen g t (goal.at.invariant_of-self-in_default g t c).After-index_mut-kid in
    let kid = c.index_mut-kid.result.now in
    let v = c.insert.new.self in
    let grows = c.in_default.ensures.grows in
    let change : v.height ≡ 0 → IsChange c.insert.new.change (entries_of_pages kid.pages) (entries_of_pages v.pages) =
    λ none. c.in_default.ensures.change (sym grows.height ∙ none) in (
      grown_inner k c.args.row v grows,
      sums_added c.add.new.self c.args.row _ _ (grows_alone k c.args.row v grows).by.adds (c.add.ensures (rows_of_pages (pages_of kids)) k.over.sums),
      c.mark_changed.ensures kids kid v (k.chosen.within, k.read) (set_there k v) (differ_set kids i v) change k.over.marked,
      firsts_set c.deref_mut-aside.result.now.firsts kids i kid v k.read grows.first k.over.firsts,
    )

pub returns-in_default-clause-grows : goal.returns-in_default-clause-grows
returns-in_default-clause-grows g t c =
    let k = chosen g t (goal.at.returns-in_default-clause-grows g t c).After-index_mut-kid in
    rw (← k.over.seen) (grows_alone k c.args.row c.insert.new.self c.in_default.ensures.grows)

pub returns-in_default-clause-left : goal.returns-in_default-clause-left
returns-in_default-clause-left g t c =
    omega (arith, kid_step (chosen g t (goal.at.returns-in_default-clause-left g t c).After-index_mut-kid), c.insert.ensures.left)

pub split_if_full-split-requires-clause-kids : goal.split_if_full-split-requires-clause-kids
split_if_full-split-requires-clause-kids g t c = all_kids (parted g t (goal.at.split_if_full-split-requires-clause-kids g t c).In-Ok)

pub split_if_full-split-requires-clause-enough : goal.split_if_full-split-requires-clause-enough
split_if_full-split-requires-clause-enough g t c = λ long.
    let p = parted g t (goal.at.split_if_full-split-requires-clause-enough g t c).In-Ok in
    let kid = c.index_mut-kid.result.now in
    let split : splits kid (rank c.args.key) ≡ kid.height + 1 = c.in-Some.ensures.split in
    omega (arith, c.insert.ensures.left, c.requires.enough, kid_fills p.kid_for c.requires.around (omega (arith, long, all_wide p)) split, split)

pub invariant_of-self-in-Inner : goal.invariant_of-self-in-Inner
invariant_of-self-in-Inner g t c =
    let p = parted g t (goal.at.invariant_of-self-in-Inner g t c).In-Ok in
    let k = p.kid_for in
    let kids = c.in-Inner.kids.items in
    let i = c.child_for-at.result in
    let v = c.insert.new.self in
    let new = c.split_if_full-split.new.kids in
    let firsts = c.insert_at.ensures (set kids i v) (omega (arith, length-set kids i v, k.chosen.within)) (omega (arith, length-set kids i v, k.over.good.not_more))
    (firsts_set c.deref_mut-aside.result.now.firsts kids i c.index_mut-kid.result.now v k.read c.in-Some.ensures.grows.first k.over.firsts) in
    let left = ap (take c.len.result) (sym c.in-Ok.ensures.items)
    ∙ split_take c.self.inside.height c.len.result c.insert-in-Inner.new.self.items new.items c.split_if_full-split.result
    c.split_if_full-split.ensures.split (c.len.ensures ∙ new.ok.0) in (
      parted_inner p new.items (vec_capacity new) c.split_if_full-split.result
          (omega (arith, c.split_if_full-split.ensures.capacity, k.over.good.room, c.in-Ok.ensures.capacity)) c.split_if_full-split.ensures.split,
      c.renew_if-in-Inner.ensures,
      c.mark_due.ensures,
      subst (AreFirsts c.keep.new.self) left (c.keep.ensures _ firsts),
    )

pub renew_if-requires : goal.renew_if-requires
renew_if-requires g t c = λ none.
    let p = one_page g t (goal.at.renew_if-requires g t c).In-Page in
    let old = c.in-Page.entries.items in
    let new = c.put_in_page-split.new.entries.items in
    let first = rank c.self.inside.first in
    let grown = page_node_grows (rank c.args.key) c.args.row first c.self.inside.height old new c.put_in_page-split.result p.good.lowest c.put_in_page-split.ensures.grows in
    let before = subst (λ rows. Sums c.add.new.self (rows ++ c.args.row ∷ [])) (sym (one_rows first old)) (c.add.ensures (rows_of old) p.sums) in
    let after = kept_sums c.add.new.self (rank c.args.key) c.args.row (page_node first c.self.inside.height old)
    (page_node first c.self.inside.height new) c.put_in_page-split.result grown (sym c.is_some.ensures ∙ none) before in
    subst (Sums c.add.new.self) (one_rows first new) after

pub renew_if-requires-in-Inner : goal.renew_if-requires-in-Inner
renew_if-requires-in-Inner g t c = λ none.
    let p = parted g t (goal.at.renew_if-requires-in-Inner g t c).In-Ok in
    let new = c.split_if_full-split.new.kids.items in
    let sums = c.add.ensures (rows_of_pages (pages_of c.in-Inner.kids.items)) p.kid_for.over.sums in
    kept_sums c.add.new.self (rank c.args.key) c.args.row (inner_node (rank c.self.inside.first) c.self.inside.height c.in-Inner.kids.items)
    (inner_node (rank c.self.inside.first) c.self.inside.height new) c.split_if_full-split.result
    (grows_split p new c.split_if_full-split.result c.split_if_full-split.ensures.split) (sym c.is_some-parted.ensures ∙ none) sums

pub returns-clause-grows : goal.returns-clause-grows
returns-clause-grows g t c =
    let p = parted g t (goal.at.returns-clause-grows g t c).In-Ok in
    rw (← p.kid_for.over.seen) (grows_split p c.split_if_full-split.new.kids.items c.split_if_full-split.result c.split_if_full-split.ensures.split)

pub returns-clause-left : goal.returns-clause-left
returns-clause-left g t c =
    omega (arith, kid_step (chosen g t (goal.at.returns-clause-left g t c).After-index_mut-kid), c.insert.ensures.left, c.split_if_full-split.ensures.left)

pub put_in_page-split-requires-clause-rising : goal.put_in_page-split-requires-clause-rising
put_in_page-split-requires-clause-rising g t c =
    let p = one_page g t (goal.at.put_in_page-split-requires-clause-rising g t c).In-Page in
    page_around (rank c.args.key) (rank c.self.inside.first) c.in-Page.entries.items (subst (AreAround (rank c.args.key)) (page_pages p) c.requires.around)

pub put_in_page-split-requires-clause-page : goal.put_in_page-split-requires-clause-page
put_in_page-split-requires-clause-page g t c = λ s.
    c.requires.page (omega (arith, s, page_splits (one_page g t (goal.at.put_in_page-split-requires-clause-page g t c).In-Page) (rank c.args.key)))

pub returns-in-Page-clause-split : goal.returns-in-Page-clause-split
returns-in-Page-clause-split g t c =
    let p = one_page g t (goal.at.returns-in-Page-clause-split g t c).In-Page in
    rw (page_splits p (rank c.args.key), page_low p) c.put_in_page-split.ensures.split

pub returns-clause-split : goal.returns-clause-split
returns-clause-split g t c =
    let p = parted g t (goal.at.returns-clause-split g t c).In-Ok in
    let kid = c.index_mut-kid.result.now in
    let split : splits kid (rank c.args.key) ≡ kid.height + 1 = c.in-Some.ensures.split in
    split_full c.self.inside.height c.insert-in-Inner.new.self.items c.split_if_full-split.new.kids.items c.split_if_full-split.result
    (splits c.args.self.now (rank c.args.key) ≡ c.args.self.now.height + 1) c.split_if_full-split.ensures.split
    (λ long. omega (arith, kid_fills p.kid_for c.requires.around (omega (arith, long, all_wide p)) split, split, kid_step p.kid_for))

pub put_in_page-split-requires-clause-rows : goal.put_in_page-split-requires-clause-rows
put_in_page-split-requires-clause-rows g t c =
    subst (IsRoomFor (rank c.args.key) c.args.rows.items (vec_capacity c.args.rows))
    (page_entries (one_page g t (goal.at.put_in_page-split-requires-clause-rows g t c).In-Page)) c.requires.rows

pub put_in_page-split-requires-clause-not_more : goal.put_in_page-split-requires-clause-not_more
put_in_page-split-requires-clause-not_more g t c = (one_page g t (goal.at.put_in_page-split-requires-clause-not_more g t c).In-Page).good.not_more

pub put_in_page-split-requires-clause-room : goal.put_in_page-split-requires-clause-room
put_in_page-split-requires-clause-room g t c = (one_page g t (goal.at.put_in_page-split-requires-clause-room g t c).In-Page).good.room

pub index_mut-kid-requires : goal.index_mut-kid-requires
index_mut-kid-requires g t c = held_at c.in-Inner.kids c.child_for-at.result (within g t (goal.at.index_mut-kid-requires g t c).After-child_for-at).0

pub insert-requires-in-Inner : goal.insert-requires-in-Inner
insert-requires-in-Inner g t c =
    omega (arith, held_at c.in-Inner.kids c.child_for-at.result (within g t (goal.at.insert-requires-in-Inner g t c).After-child_for-at).0)

pub unreachable-requires : goal.unreachable-requires
unreachable-requires g t c =
    let o = over g t (goal.at.unreachable-requires g t c).After-deref_mut-aside in
    omega (arith, c.in-Inner.kids.ok.0, c.in_default-insert.ensures.full, o.good.room, o.good.not_more)

pub split_if_full-split-requires-clause-not_more : goal.split_if_full-split-requires-clause-not_more
split_if_full-split-requires-clause-not_more g t c =
    let p = parted g t (goal.at.split_if_full-split-requires-clause-not_more g t c).In-Ok in
    omega (arith, all_wide p, p.kid_for.over.good.not_more)

pub split_if_full-split-requires-clause-blank : goal.split_if_full-split-requires-clause-blank
split_if_full-split-requires-clause-blank g t c = c.insert.ensures.blank

pub returns-clause-blank : goal.returns-clause-blank
returns-clause-blank g t c = c.split_if_full-split.ensures.blank

pub overflow_add-at : goal.overflow_add-at
overflow_add-at g t c = let l = within g t (goal.at.overflow_add-at g t c).After-child_for-at in omega (arith, l.0, l.1)

pub overflow_add-at-in-Inner : goal.overflow_add-at-in-Inner
overflow_add-at-in-Inner g t c = let l = within g t (goal.at.overflow_add-at-in-Inner g t c).After-child_for-at in omega (arith, l.0, l.1)

pub overflow_add-at-in-Inner-2 : goal.overflow_add-at-in-Inner-2
overflow_add-at-in-Inner-2 g t c = let l = within g t (goal.at.overflow_add-at-in-Inner-2 g t c).After-child_for-at in omega (arith, l.0, l.1)

pub unreachable-unreachable : goal.unreachable-unreachable
unreachable-unreachable g t c = c.unreachable.result

pub mark_due-requires : goal.mark_due-requires
mark_due-requires g t c = λ none.
    let p = parted g t (goal.at.mark_due-requires g t c).In-Ok in
    let kids = c.in-Inner.kids.items in
    let i = c.child_for-at.result in
    let changed = set kids i c.insert.new.self in
    let past : i + 1 ≤ length changed = omega (arith, p.kid_for.chosen.within, length-set kids i c.insert.new.self) in
    let opens = subst (OpensAt (i + 1) changed) (sym c.in-Ok.ensures.items) (opens_insert changed (i + 1) c.in-Some.right past) in
    subst (λ m. AreMarked m c.split_if_full-split.new.kids.items) (sym (none_holds c.split_if_full-split.result _ (sym c.is_some-parted.ensures ∙ none) c.split_if_full-split.ensures.marks))
    (subst (AreMarked c.open.new.self)
    (sym (split_same c.self.inside.height c.insert-in-Inner.new.self.items c.split_if_full-split.new.kids.items c.split_if_full-split.result
    c.split_if_full-split.ensures.split (sym c.is_some-parted.ensures ∙ none)))
    (c.open.ensures changed c.insert-in-Inner.new.self.items opens (c.clear_page.ensures kids changed (differ_set kids i c.insert.new.self) p.kid_for.over.marked)))

pub returns-clause-change : goal.returns-clause-change
returns-clause-change g t c =
    none_so c.split_if_full-split.result (λ low. absurd (not_lowest (over g t (goal.at.returns-clause-change g t c).After-deref_mut-aside) low))

pub put_in_page-split-requires-clause-key : goal.put_in_page-split-requires-clause-key
put_in_page-split-requires-clause-key g t c = c.requires.key

pub returns-in_default-clause-change : goal.returns-in_default-clause-change
returns-in_default-clause-change g t c = λ low. absurd (not_lowest (over g t (goal.at.returns-in_default-clause-change g t c).After-deref_mut-aside) low)
