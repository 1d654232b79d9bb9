use Rattle.std.proofs.Common.{◌≡◌, ◌++◌, [], ℕ, subst, sym, ◌∙◌, arith, rules}
use Rattle.std.proofs.Math.ListN.{set}
use Rattle.std.proofs.lemmas.List.{append-nil}
use Rattle.st_key.specs.Key.{rank}
use Rattle.st_index.specs.inner.Entries.{rows_of}
use Rattle.st_index.specs.inner.Entries.{name_of}
use Rattle.st_index.specs.inner.Changes.{IsChange}
use Rattle.st_tally.specs.inner.Pages.{entries_of_pages, page_node, rows_of_pages}
use Rattle.st_tally.specs.inner.Sums.{Sums}
use Rattle.st_tally.proofs.Marking.{ok_so, ok_then}
use Rattle.st_tally.proofs.Placing.{differ_set}
use Rattle.st_ubtree.specs.inner.Kids.{pages_of}
use Rattle.st_ubtree.specs.inner.Nodes.{inner_node}
use Rattle.st_ubtree.proofs.Firsts.{firsts_set}
use Rattle.st_ubtree.proofs.Halving.{held_at}
use Rattle.st_ubtree.proofs.Keeping.{kept_traded, kid_stays_so, page_stays}
use Rattle.st_ubtree.proofs.Lifting.{set_there}
use Rattle.st_ubtree.proofs.Over.{IsKidFor, IsOver, IsPage, is_over, is_page, kid_for, kid_lower, not_lowest, over_pages, page_entries, page_pages}
use Rattle.st_ubtree.proofs.Splitting.{one_rows}
use Rattle.st_ubtree.proofs.Trading.{kept_inner, kid_trades, kids_keep, kids_lack, page_keeps, page_lacks, page_named, page_trades}
use Rattle.st_ubtree.proofs.node.Node.+replace.Given.{Over}
use Rattle.st_ubtree.proofs.node.Node.+replace.Goals.{In-Page, After-deref_mut-aside, After-index_mut-kid}
use Rattle.st_ubtree.proofs.node.Node.+replace.Goals as goal

one_page : (g : Over) (t : ℕ) (c : In-Page g t) → IsPage c.self.inside c.in-Page.entries c.args.self.now
one_page g t c = is_page c.self.inside c.in-Page.is c.self.invariant c.self.view_is

over : (g : Over) (t : ℕ) (c : After-deref_mut-aside g t) → IsOver c.self.inside c.in-Inner.kids c.deref_mut-aside.result.now c.args.self.now
over g t c = is_over c.self.inside c.in-Inner.is c.deref_mut-aside.ensures.value c.self.invariant c.self.view_is

chosen : (g : Over) (t : ℕ) (c : After-index_mut-kid g t)
    → IsKidFor (rank c.args.key) c.self.inside c.in-Inner.kids c.deref_mut-aside.result.now c.args.self.now c.child_for-at.result c.index_mut-kid.result.now
chosen g t c =
    kid_for (is_over c.self.inside c.in-Inner.is c.deref_mut-aside.ensures.value c.self.invariant c.self.view_is) c.child_for-at.ensures c.index_mut-kid.ensures.value

pub invariant_of-self : goal.invariant_of-self
invariant_of-self g t c =
    let p = one_page g t (goal.at.invariant_of-self g t c).In-Page in
    let first = rank c.self.inside.first in
    let height = c.self.inside.height in
    let es = c.in-Page.entries.items in
    let new = c.swap.new.entries.items in
    let was = c.in-Page.entries.ok.0 in
    let now = c.swap.new.entries.ok.0 in
    let trades = page_trades (rank c.args.key) c.args.row first es new c.swap.result c.swap.ensures.ok (rw (← c.requires) at c.swap.ensures.placed) (rw (← c.requires) at c.swap.ensures.rising) in
    let named = page_named c.args.row (rows_of es) (rows_of new) c.swap.result c.swap.ensures.ok in
    let stays = page_stays first es new c.swap.result c.swap.ensures.err in (
      record { lowest = p.good.lowest; not_more = omega (arith, was, now, c.swap.ensures.len, p.good.not_more); room = omega (arith, p.good.room, c.swap.ensures.capacity) },
      subst (Sums c.widen.new.self) (one_rows first new)
          (kept_traded c.widen.new.self (rank c.args.key) c.args.row (page_node first height es) (page_node first height new) c.swap.result trades named
          stays c.widen.ensures.point (subst (Sums c.widen.new.self) (sym (one_rows first es)) (c.widen.ensures.rows (rows_of es) p.sums))),
      tt,
      tt,
    )

pub invariant_of-self-2 : goal.invariant_of-self-2
invariant_of-self-2 g t c =
    let k = chosen g t (goal.at.invariant_of-self-2 g t c).After-index_mut-kid in
    let first = rank c.self.inside.first in
    let height = c.self.inside.height in
    let kids = c.in-Inner.kids.items in
    let i = c.child_for-at.result in
    let kid = c.index_mut-kid.result.now in
    let v = c.replace-out.new.self in
    let trades = kid_trades k v c.args.row c.replace-out.result c.replace-out.ensures.ok in
    let stays = kid_stays_so kids i kid v k.chosen.within k.read c.replace-out.result c.replace-out.ensures.err in
    let next : (kid.height ≡ 0 → IsChange c.replace-out.new.change (entries_of_pages kid.pages) (entries_of_pages v.pages)) → v.height ≡ 0
    → IsChange c.replace-out.new.change (entries_of_pages kid.pages) (entries_of_pages v.pages) = λ h none. h (sym c.replace-out.ensures.keeps.height ∙ none) in (
      kept_inner k v c.replace-out.ensures.keeps,
      kept_traded c.widen.new.self (rank c.args.key) c.args.row (inner_node first height kids) (inner_node first height (set kids i v)) c.replace-out.result trades
          c.replace-out.ensures.named stays c.widen.ensures.point (c.widen.ensures.rows (rows_of_pages (pages_of kids)) k.over.sums),
      c.mark_swapped.ensures kids kid v (k.chosen.within, k.read) (set_there k v) (differ_set kids i v) (ok_then c.replace-out.result next c.replace-out.ensures.change) k.over.marked,
      firsts_set c.deref_mut-aside.result.now.firsts kids i kid v k.read c.replace-out.ensures.keeps.first k.over.firsts,
    )

pub returns-in-Page-clause-ok : goal.returns-in-Page-clause-ok
returns-in-Page-clause-ok g t c =
    rw (page_pages (one_page g t (goal.at.returns-in-Page-clause-ok g t c).In-Page))
    (page_trades (rank c.args.key) c.args.row (rank c.self.inside.first) c.in-Page.entries.items c.swap.new.entries.items c.swap.result c.swap.ensures.ok
    (rw (← c.requires) at c.swap.ensures.placed) (rw (← c.requires) at c.swap.ensures.rising))

pub returns-clause-ok : goal.returns-clause-ok
returns-clause-ok g t c =
    let k = chosen g t (goal.at.returns-clause-ok g t c).After-index_mut-kid in
    rw (over_pages k.over) (kid_trades k c.replace-out.new.self c.args.row c.replace-out.result c.replace-out.ensures.ok)

pub returns-in-Page-clause-named : goal.returns-in-Page-clause-named
returns-in-Page-clause-named g t c =
    (page_named c.args.row (rows_of c.in-Page.entries.items) (rows_of c.swap.new.entries.items) c.swap.result c.swap.ensures.ok)

pub returns-clause-named : goal.returns-clause-named
returns-clause-named g t c =
    c.replace-out.ensures.named

pub returns-in-Page-clause-keeps : goal.returns-in-Page-clause-keeps
returns-in-Page-clause-keeps g t c =
    let p = one_page g t (goal.at.returns-in-Page-clause-keeps g t c).In-Page in
    rw (← p.seen) (page_keeps (rank c.self.inside.first) c.self.inside.height c.in-Page.entries.items c.swap.new.entries.items
    (omega (arith, c.in-Page.entries.ok.0, c.swap.new.entries.ok.0, c.swap.ensures.len)))

pub returns-clause-keeps : goal.returns-clause-keeps
returns-clause-keeps g t c =
    let k = chosen g t (goal.at.returns-clause-keeps g t c).After-index_mut-kid in
    rw (← k.over.seen) (kids_keep k c.replace-out.new.self c.replace-out.ensures.keeps)

pub returns-in-Page-clause-absent : goal.returns-in-Page-clause-absent
returns-in-Page-clause-absent g t c =
    rw (page_pages (one_page g t (goal.at.returns-in-Page-clause-absent g t c).In-Page))
    (page_lacks (rank c.args.key) (name_of c.args.row) (rank c.self.inside.first) c.in-Page.entries.items c.swap.result (rw (← c.requires) at c.swap.ensures.absent))

pub returns-clause-absent : goal.returns-clause-absent
returns-clause-absent g t c =
    kids_lack (chosen g t (goal.at.returns-clause-absent g t c).After-index_mut-kid) c.replace-out.new.self (name_of c.args.row) c.replace-out.result c.replace-out.ensures.absent

pub index_mut-kid-requires : goal.index_mut-kid-requires
index_mut-kid-requires g t c =
    let o = over g t (goal.at.index_mut-kid-requires g t c).After-deref_mut-aside in
    held_at c.in-Inner.kids c.child_for-at.result (c.child_for-at.ensures c.in-Inner.kids.items o.good.not_less o.firsts).within

pub returns-in-Page-clause-err : goal.returns-in-Page-clause-err
returns-in-Page-clause-err g t c =
    rw (page_pages (one_page g t (goal.at.returns-in-Page-clause-err g t c).In-Page))
    (page_stays (rank c.self.inside.first) c.in-Page.entries.items c.swap.new.entries.items c.swap.result c.swap.ensures.err)

pub returns-clause-err : goal.returns-clause-err
returns-clause-err g t c =
    let k = chosen g t (goal.at.returns-clause-err g t c).After-index_mut-kid in
    rw (over_pages k.over) (kid_stays_so c.in-Inner.kids.items c.child_for-at.result c.index_mut-kid.result.now c.replace-out.new.self k.chosen.within k.read
    c.replace-out.result c.replace-out.ensures.err)

pub replace-out-requires : goal.replace-out-requires
replace-out-requires g t c κs within =
    (search (rules, kid_lower (chosen g t (goal.at.replace-out-requires g t c).After-index_mut-kid)), (within, c.requires))

pub returns-in-Page-clause-change : goal.returns-in-Page-clause-change
returns-in-Page-clause-change g t c =
    let es = c.in-Page.entries.items in
    let new = c.swap.new.entries.items in
    let before = page_entries (one_page g t (goal.at.returns-in-Page-clause-change g t c).In-Page) in
    ok_then c.swap.result
    (λ (h : IsChange c.swap.new.change es new) (low : c.args.self.now.height ≡ 0). subst (λ xs. IsChange c.swap.new.change xs (new ++ []))
    (sym before) (subst (IsChange c.swap.new.change es) (sym (append-nil new)) h)) c.swap.ensures.change

pub returns-clause-change : goal.returns-clause-change
returns-clause-change g t c =
    ok_so c.replace-out.result (λ low. absurd (not_lowest (over g t (goal.at.returns-clause-change g t c).After-deref_mut-aside) low))
