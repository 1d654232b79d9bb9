use Rattle.std.proofs.Common.{◌≤◌, ◌∷◌, [], ℕ, subst, sym, ap, arith, rules, length-set, vec_capacity}
use Rattle.std.proofs.Math.ListN.{set}
use Rattle.std.proofs.lemmas.List.{append-nil}
use Rattle.std.specs.Prelude.{Some}
use Rattle.st_key.specs.Key.{rank}
use Rattle.st_index.specs.inner.Entries.{Name}
use Rattle.st_tally.specs.inner.Marks.{AreMarked}
use Rattle.st_tally.specs.inner.Pages.{page_node, rows_of_pages}
use Rattle.st_tally.specs.inner.Sums.{Sums}
use Rattle.st_tally.proofs.Marking.{changed_kid, page_changed}
use Rattle.st_tally.proofs.Placing.{differ_set, set_read}
use Rattle.st_ubtree.specs.inner.Firsts.{AreFirsts}
use Rattle.st_ubtree.specs.inner.Kids.{pages_of}
use Rattle.st_ubtree.specs.inner.Nodes.{IsInnerNode, inner_node}
use Rattle.st_ubtree.proofs.Firsts.{firsts_set}
use Rattle.st_ubtree.proofs.Halving.{held_at}
use Rattle.st_ubtree.proofs.Keeping.{kept_taken}
use Rattle.st_ubtree.proofs.Over.{IsKidFor, IsOver, is_over, is_page, kid_for, kid_is, kid_lower, not_lowest, page_entries, page_pages, two_kids}
use Rattle.st_ubtree.proofs.Shrinking.{are_worn, none_in_kids, page_kept, page_named, page_taken, page_without, shrinks_inner, shrunk_inner}
use Rattle.st_ubtree.proofs.Splitting.{one_rows, page}
use Rattle.st_ubtree.proofs.node.Node.+remove.Given.{Over}
use Rattle.st_ubtree.proofs.node.Node.+remove.Goals.{After-deref_mut-aside, After-index_mut-kid, in-Page, in-Inner+in_ok-row-in-Inner}
use Rattle.st_ubtree.proofs.node.Node.+remove.Goals as goal

over : (g : Over) (t : ℕ) (c : After-deref_mut-aside g t) → IsOver c.self.inside c.in-Inner.kids c.deref_mut-aside.result.now c.args.self.now
over g t c = is_over c.self.inside c.in-Inner.is c.deref_mut-aside.ensures.value c.self.invariant c.self.view_is

chosen : (g : Over) (t : ℕ) (c : After-index_mut-kid g t)
    → IsKidFor (rank c.args.key) c.self.inside c.in-Inner.kids c.deref_mut-aside.result.now c.args.self.now c.child_for-at.result c.index_mut-kid.result.now
chosen g t c =
    kid_for (is_over c.self.inside c.in-Inner.is c.deref_mut-aside.ensures.value c.self.invariant c.self.view_is) c.child_for-at.ensures c.index_mut-kid.ensures.value

pub returns-in_err-row-in-Inner-clause-absent : goal.returns-in_err-row-in-Inner-clause-absent
returns-in_err-row-in-Inner-clause-absent g t c =
    let k = chosen g t (goal.at.returns-in_err-row-in-Inner-clause-absent g t c).After-index_mut-kid in
    rw c.from_residual.ensures (none_in_kids k (record { id = c.args.id.now; label = c.args.label.now }) c.in_err-row-in-Inner.ensures.absent)

pub mend-requires-clause-worn : goal.mend-requires-clause-worn
mend-requires-clause-worn g t c =
    let k = chosen g t (goal.at.mend-requires-clause-worn g t c).After-index_mut-kid in
    (k.over.good.below, are_worn k c.in_ok-row-in-Inner.row c.remove.new.self c.in_ok-row-in-Inner.ensures.some)

pub invariant_of-self-2 : goal.invariant_of-self-2
invariant_of-self-2 g t c = (
  elim c.match-self.branch [
    | in-Page w ↦
        let good = (is_page c.self.inside w.in-Page.is c.self.invariant c.self.view_is).good in
        rw w.self-inside-is (record {
          lowest = good.lowest;
          not_more = omega (arith, w.in-Page.entries.ok.0, w.take-taken.new.entries.ok.0, w.take-taken.ensures.shorter, good.not_more);
          room = omega (arith, good.room, w.take-taken.ensures.capacity);
        })
    | in-Inner+in_ok-row-in-Inner w ↦
        let k = kid_for (is_over c.self.inside w.in-Inner.is w.deref_mut-aside.ensures.value c.self.invariant c.self.view_is) w.child_for-at.ensures w.index_mut-kid.ensures.value in
        let given : 1 ≤ c.args.self.now.height → 2 ≤ c.args.self.now.width = search (rules, c.requires) in
        rw w.self-inside-is (shrunk_inner k w.in_ok-row-in-Inner.row w.remove.new.self w.in_ok-row-in-Inner.ensures.some w.mend.new.kids.items
        w.mend.ensures.mends _ (two_kids k.over given) w.mend.ensures.room)
  ],
  c.renew_if.ensures,
  elim c.match-self.branch [
    | in-Page w ↦ rw w.self-inside-is tt
    | in-Inner+in_ok-row-in-Inner w ↦
        let k = kid_for (is_over c.self.inside w.in-Inner.is w.deref_mut-aside.ensures.value c.self.invariant c.self.view_is) w.child_for-at.ensures w.index_mut-kid.ensures.value in
        let kids = w.in-Inner.kids.items in
        let i = w.child_for-at.result in
        let v = w.remove.new.self in
        let moved = changed_kid kids i w.index_mut-kid.result.now v w.index.result.now w.remove.new.change k.chosen.within w.index.ensures
        w.in_ok-row-in-Inner.ensures.some.height w.in_ok-row-in-Inner.ensures.change in
        let followed = w.mark_change.ensures kids (set kids i v) w.index_mut-kid.result.now (k.chosen.within, k.read) moved.0 (differ_set kids i v) moved.1 k.over.marked in
        rw w.self-inside-is (w.mark_if.ensures (w.mend.ensures.marks followed))
  ],
  elim c.match-self.branch [
    | in-Page w ↦ rw w.self-inside-is tt
    | in-Inner+in_ok-row-in-Inner w ↦
        let o = is_over c.self.inside w.in-Inner.is w.deref_mut-aside.ensures.value c.self.invariant c.self.view_is in
        rw w.self-inside-is (w.mend.ensures.firsts
        (firsts_set w.deref_mut-aside.result.now.firsts w.in-Inner.kids.items w.child_for-at.result w.index_mut-kid.result.now w.remove.new.self
        w.index_mut-kid.ensures.value w.in_ok-row-in-Inner.ensures.some.first o.firsts))
  ],
)

pub returns-clause-some : goal.returns-clause-some
returns-clause-some g t c =
    elim c.match-self.branch [
      | in-Page w ↦
          let p = is_page c.self.inside w.in-Page.is c.self.invariant c.self.view_is in
          let was = w.in-Page.entries.ok.0 in
          let now = w.take-taken.new.entries.ok.0 in
          rw (← p.seen, w.self-inside-is, w.taken-is)
          (page_taken (rank c.args.key) (record { id = c.args.id.now; label = c.args.label.now }) (rank c.self.inside.first) c.self.inside.height
          w.in-Page.entries.items w.take-taken.new.entries.items w.take-taken.result w.take-taken.ensures.some w.take-taken.ensures.placed
          w.take-taken.ensures.rising (omega (arith, was, now, w.take-taken.ensures.shorter)) (omega (arith, was, now, w.take-taken.ensures.at_most_one)) p.good.not_more)
      | in-Inner+in_ok-row-in-Inner w ↦
          let k = kid_for (is_over c.self.inside w.in-Inner.is w.deref_mut-aside.ensures.value c.self.invariant c.self.view_is) w.child_for-at.ensures w.index_mut-kid.ensures.value in
          rw (← k.over.seen, w.self-inside-is, w.taken-is)
          (shrinks_inner k w.in_ok-row-in-Inner.row w.remove.new.self w.in_ok-row-in-Inner.ensures.some w.mend.new.kids.items w.mend.ensures.mends)
    ]

pub returns-clause-absent : goal.returns-clause-absent
returns-clause-absent g t c =
    elim c.match-self.branch [
      | in-Page w ↦
          let pages = page_pages (is_page c.self.inside w.in-Page.is c.self.invariant c.self.view_is) in
          rw (pages, w.taken-is) (page_without (rank c.args.key) (record { id = c.args.id.now; label = c.args.label.now }) (rank c.self.inside.first)
          w.in-Page.entries.items w.take-taken.result w.take-taken.ensures.absent)
      | in-Inner+in_ok-row-in-Inner w ↦ rw w.taken-is tt
    ]

pub returns-clause-named : goal.returns-clause-named
returns-clause-named g t c =
    elim c.match-self.branch [
      | in-Page w ↦ rw w.taken-is (page_named _ _ _ w.take-taken.result w.take-taken.ensures.some)
      | in-Inner+in_ok-row-in-Inner w ↦ rw w.taken-is w.in_ok-row-in-Inner.ensures.named
    ]

pub returns-clause-none : goal.returns-clause-none
returns-clause-none g t c =
    elim c.match-self.branch [
      | in-Page w ↦
          let seen = (is_page c.self.inside w.in-Page.is c.self.invariant c.self.view_is).seen in
          rw (← seen, w.self-inside-is, w.taken-is) (page_kept (rank c.self.inside.first) c.self.inside.height w.in-Page.entries.items
          w.take-taken.new.entries.items w.take-taken.result w.take-taken.ensures.none)
      | in-Inner+in_ok-row-in-Inner w ↦ rw w.taken-is tt
    ]

pub index_mut-kid-requires : goal.index_mut-kid-requires
index_mut-kid-requires g t c =
    let o = over g t (goal.at.index_mut-kid-requires g t c).After-deref_mut-aside in
    held_at c.in-Inner.kids c.child_for-at.result (c.child_for-at.ensures c.in-Inner.kids.items o.good.not_less o.firsts).within

pub remove-requires : goal.remove-requires
remove-requires g t c κs within =
    let k = chosen g t (goal.at.remove-requires g t c).After-index_mut-kid in
    (search (rules, kid_lower k), (within, λ tall. omega (arith, (kid_is k).not_less)))

pub returns-in_err-row-in-Inner-clause-none : goal.returns-in_err-row-in-Inner-clause-none
returns-in_err-row-in-Inner-clause-none g t c =
    let k = chosen g t (goal.at.returns-in_err-row-in-Inner-clause-none g t c).After-index_mut-kid in
    rw (c.from_residual.ensures, ← k.over.seen) (ap (inner_node (rank c.self.inside.first) c.self.inside.height)
    (set_read c.in-Inner.kids.items c.child_for-at.result c.index_mut-kid.result.now c.remove.new.self k.chosen.within k.read c.in_err-row-in-Inner.ensures.none))

pub returns-in_err-row-in-Inner-clause-some : goal.returns-in_err-row-in-Inner-clause-some
returns-in_err-row-in-Inner-clause-some g t c = rw c.from_residual.ensures tt

pub returns-in_err-row-in-Inner-clause-named : goal.returns-in_err-row-in-Inner-clause-named
returns-in_err-row-in-Inner-clause-named g t c = rw c.from_residual.ensures tt

pub invariant_of-self : goal.invariant_of-self
invariant_of-self g t c =
    let k = chosen g t (goal.at.invariant_of-self g t c).After-index_mut-kid in
    let same = set_read c.in-Inner.kids.items c.child_for-at.result c.index_mut-kid.result.now c.remove.new.self k.chosen.within k.read c.in_err-row-in-Inner.ensures.none in (
      subst (λ ks. IsInnerNode (rank c.self.inside.first) c.self.inside.height ks (vec_capacity c.in-Inner.kids)) (sym same) k.over.good,
      subst (λ ks. Sums c.self.inside.sum (rows_of_pages (pages_of ks))) (sym same) k.over.sums,
      subst (AreMarked c.deref_mut-aside.result.now.marks) (sym same) k.over.marked,
      subst (AreFirsts c.deref_mut-aside.result.now.firsts) (sym same) k.over.firsts,
    )

pub mend-requires-clause-two : goal.mend-requires-clause-two
mend-requires-clause-two g t c =
    let given : 1 ≤ c.args.self.now.height → 2 ≤ c.args.self.now.width = search (rules, c.requires) in
    let two = two_kids (over g t (goal.at.mend-requires-clause-two g t c).After-deref_mut-aside) given in
    omega (arith, two, length-set c.in-Inner.kids.items c.child_for-at.result c.remove.new.self)

pub mend-requires-clause-not_more : goal.mend-requires-clause-not_more
mend-requires-clause-not_more g t c =
    let o = over g t (goal.at.mend-requires-clause-not_more g t c).After-deref_mut-aside in
    omega (arith, o.good.not_more, length-set c.in-Inner.kids.items c.child_for-at.result c.remove.new.self)

pub mend-requires-clause-room : goal.mend-requires-clause-room
mend-requires-clause-room g t c = (over g t (goal.at.mend-requires-clause-room g t c).After-deref_mut-aside).good.room

pub renew_if-requires : goal.renew_if-requires
renew_if-requires g t c = λ no.
    let first = rank c.self.inside.first in
    let height = c.self.inside.height in
    let key = rank c.args.key in
    let name : Name = record { id = c.args.id.now; label = c.args.label.now } in
    elim c.match-self.branch [
      | in-Page w ↦
          let p = is_page c.self.inside w.in-Page.is c.self.invariant c.self.view_is in
          let es = w.in-Page.entries.items in
          let new = w.take-taken.new.entries.items in
          let was = w.in-Page.entries.ok.0 in
          let now = w.take-taken.new.entries.ok.0 in
          let fell = page_taken key name first height es new w.take-taken.result w.take-taken.ensures.some w.take-taken.ensures.placed w.take-taken.ensures.rising
          (omega (arith, was, now, w.take-taken.ensures.shorter)) (omega (arith, was, now, w.take-taken.ensures.at_most_one)) p.good.not_more in
          let kept = page_kept first height es new w.take-taken.result w.take-taken.ensures.none in
          let drops = rw (w.taken-is, w.self-inside-is) at c.drop_row.ensures in
          rw w.self-inside-is (subst (Sums c.drop_row.new.sum) (one_rows first new)
          (kept_taken c.self.inside.sum c.drop_row.new.sum key (page_node first height es) (page_node first height new) w.take-taken.result fell kept
          drops (subst (Sums c.self.inside.sum) (sym (one_rows first es)) p.sums)))
      | in-Inner+in_ok-row-in-Inner w ↦
          let k = kid_for (is_over c.self.inside w.in-Inner.is w.deref_mut-aside.ensures.value c.self.invariant c.self.view_is) w.child_for-at.ensures w.index_mut-kid.ensures.value in
          let shrinks = shrinks_inner k w.in_ok-row-in-Inner.row w.remove.new.self w.in_ok-row-in-Inner.ensures.some w.mend.new.kids.items w.mend.ensures.mends in
          let drops = rw (w.taken-is, w.self-inside-is) at c.drop_row.ensures in
          rw w.self-inside-is (kept_taken c.self.inside.sum c.drop_row.new.sum key (inner_node first height w.in-Inner.kids.items)
          (inner_node first height w.mend.new.kids.items) (Some w.in_ok-row-in-Inner.row) shrinks tt drops k.over.sums)
    ]

pub returns-clause-change : goal.returns-clause-change
returns-clause-change g t c =
    elim c.match-self.branch [
      | in-Page w ↦
          let p = is_page c.self.inside w.in-Page.is c.self.invariant c.self.view_is in
          let new = w.take-taken.new.entries.items in
          rw (w.self-inside-is, w.change-is, w.taken-is)
          (page_changed w.take-taken.result c.args.self.now.height w.take-taken.new.change c.args.self.now.pages (page (rank c.self.inside.first) new ∷ [])
          w.in-Page.entries.items new (page_entries p) (append-nil new) w.take-taken.ensures.change)
      | in-Inner+in_ok-row-in-Inner w ↦
          let o = is_over c.self.inside w.in-Inner.is w.deref_mut-aside.ensures.value c.self.invariant c.self.view_is in
          rw w.taken-is (λ low. absurd (not_lowest o low))
    ]
