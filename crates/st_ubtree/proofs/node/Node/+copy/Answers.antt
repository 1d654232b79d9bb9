use Rattle.std.proofs.Common.{◌≡◌, ◌<◌, length, refl, subst, sym, ap, ◌∙◌, arith, rules, vec_capacity}
use Rattle.std.proofs.lemmas.List.{take_all}
use Rattle.st_key.specs.Key.{rank}
use Rattle.st_index.specs.inner.Entries.{rows_of}
use Rattle.st_index.proofs.Copied.{one_copied}
use Rattle.st_tally.specs.inner.Marks.{AreMarked}
use Rattle.st_tally.specs.inner.Pages.{rows_of_pages}
use Rattle.st_tally.specs.inner.Sums.{Sums}
use Rattle.st_ubtree.specs.inner.Firsts.{AreFirsts}
use Rattle.st_ubtree.specs.inner.Kids.{pages_of}
use Rattle.st_ubtree.specs.inner.Nodes.{inner_node}
use Rattle.st_ubtree.specs.declared.node.aside.Aside.{Aside}
use Rattle.st_ubtree.proofs.Copying.{kids_same, sums_same}
use Rattle.st_ubtree.proofs.Over.{is_over, is_page, item_lower}
use Rattle.st_ubtree.proofs.node.Node.+copy.Goals as goal

pub copy-requires-in-loop-kid : goal.copy-requires-in-loop-kid
copy-requires-in-loop-kid g t c κs within =
    let o = is_over c.self.inside c.in-Inner.is refl c.self.invariant c.self.view_is in
    let lower = item_lower o c.as_slice-kid-items.ensures.value c.loop-kid.kid-index c.kid-item.result (omega arith) c.kid-item.is in
    search (rules, lower, within)

pub loop-kid-preserved : goal.loop-kid-preserved
loop-kid-preserved g t c =
    let i = c.loop-kid.kid-index in
    let below : i < length c.as_slice-kid-items.result.now = omega arith in
    record {
      items = one_copied c.as_slice-kid-items.result.now c.loop-kid.copies.items c.push.new.self.items i c.kid-item.result c.in_ok-other-in-Inner.other below
          c.kid-item.is c.in_ok-other-in-Inner.ensures c.loop-kid.invariant.items c.in_ok-push-in-Inner.ensures.items;
      room = omega (arith, c.in_ok-push-in-Inner.ensures.capacity, c.loop-kid.invariant.room);
    }

pub invariant_of-result : goal.invariant_of-result
invariant_of-result g t c =
    let p = is_page c.self.inside c.in-Page.is c.self.invariant c.self.view_is in
    let same = c.in_ok-copies-in-Page.ensures.items ∙ c.as_slice.ensures.value in
    let sum = c.in_ok-sum-in-Page in (
      record { lowest = p.good.lowest; not_more = omega (arith, ap length same, p.good.not_more); room = c.in_ok-copies-in-Page.ensures.room },
      sums_same c.self.inside.sum sum.sum (rows_of c.in_ok-copies-in-Page.copies.items) sum.ensures.bounds sum.ensures.counts sum.ensures.all
          (subst (Sums c.self.inside.sum) (sym (ap rows_of same)) p.sums),
      tt,
      tt,
    )

pub returns-in_ok-sum-in-Inner : goal.returns-in_ok-sum-in-Inner
returns-in_ok-sum-in-Inner g t c =
    let o = is_over c.self.inside c.in-Inner.is refl c.self.invariant c.self.view_is in
    ap (inner_node (rank c.self.inside.first) c.self.inside.height)
    (c.loop-kid.invariant.items ∙ take_all c.loop-kid.kid-index c.as_slice-kid-items.result.now c.loop-kid-test.false ∙ c.as_slice-kid-items.ensures.value)
    ∙ o.seen

pub invariant_of-result-in-Inner : goal.invariant_of-result-in-Inner
invariant_of-result-in-Inner g t c =
    let o = is_over c.self.inside c.in-Inner.is c.deref.ensures c.self.invariant c.self.view_is in
    let kids = c.in-Inner.kids.items in
    let copies = c.loop-kid.copies.items in
    let same : copies ≡ kids =
    c.loop-kid.invariant.items ∙ take_all c.loop-kid.kid-index c.as_slice-kid-items.result.now c.loop-kid-test.false ∙ c.as_slice-kid-items.ensures.value in
    let sum = c.in_ok-sum-in-Inner in
    let slice : c.as_slice-in-Inner.result.now ≡ copies = c.as_slice-in-Inner.ensures.value in
    let beside = c.in_ok-beside-in-Inner.beside in
    let boxed : c.in_ok-beside-in-Inner-2.beside.value ≡ beside = c.in_ok-beside-in-Inner-2.ensures.ok in
    let marks = subst (AreMarked beside.marks) slice (c.in_ok-beside-in-Inner.ensures.marks (subst (AreMarked c.deref.result.now.marks) (sym (slice ∙ same)) o.marked)) in
    let firsts = subst (AreFirsts beside.firsts) slice c.in_ok-beside-in-Inner.ensures.firsts in (
      kids_same (rank c.self.inside.first) c.self.inside.height kids copies (vec_capacity c.in-Inner.kids) _ same c.loop-kid.invariant.room o.good,
      sums_same c.self.inside.sum sum.sum (rows_of_pages (pages_of copies)) sum.ensures.bounds sum.ensures.counts sum.ensures.all
          (subst (λ ks. Sums c.self.inside.sum (rows_of_pages (pages_of ks))) (sym same) o.sums),
      subst (λ (a : Aside g.row.A.Denot). AreMarked a.marks copies) (sym boxed) marks,
      subst (λ (a : Aside g.row.A.Denot). AreFirsts a.firsts copies) (sym boxed) firsts,
    )
