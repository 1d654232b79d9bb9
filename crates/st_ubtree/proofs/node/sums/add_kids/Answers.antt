use Rattle.std.proofs.Common.{◌+◌, ◌<◌, ◌++◌, length, take, sym, ap, subst, arith, ◌∙◌}
use Rattle.std.proofs.lemmas.List.{append-nil, take_all}
use Rattle.st_tally.specs.inner.Pages.{NodeValue, rows_of_pages}
use Rattle.st_ubtree.specs.inner.Kids.{pages_of}
use Rattle.st_tally.specs.inner.Sums.{Sums}
use Rattle.st_ubtree.proofs.Keeping.{rows_of_kids}
use Rattle.st_tally.proofs.Summing.{next_lists}
use Rattle.st_ubtree.proofs.node.sums.add_kids.Goals as goal

pub loop-kid-init : goal.loop-kid-init
loop-kid-init g c = λ rows sums. subst (Sums c.args.sum.now) (sym (append-nil rows)) sums

pub loop-kid-preserved : goal.loop-kid-preserved
loop-kid-preserved g c = λ rows sums.
    let kids = c.args.kids.now in
    let i = c.loop-kid.kid-index in
    let kid = c.kid-item.result in
    let below : i < length kids = omega arith in
    let here = ap (λ xs. (rows ++ xs) ++ rows_of_pages kid.pages) (rows_of_kids (take i kids)) in
    let there = ap (λ xs. rows ++ xs) (sym (rows_of_kids (take (i + 1) kids))) in
    let next = next_lists (λ (v : NodeValue g.row.A.Denot). rows_of_pages v.pages) rows kids i kid below c.kid-item.is in
    subst (Sums c.add_to.new.sum) (here ∙ next ∙ there) (c.add_to.ensures (rows ++ rows_of_pages (pages_of (take i kids))) (c.loop-kid.invariant rows sums))

pub returns : goal.returns
returns g c = λ rows sums. subst (Sums c.loop-kid.sum)
    (ap (λ ks. rows ++ rows_of_pages (pages_of ks)) (take_all c.loop-kid.kid-index c.args.kids.now c.loop-kid-test.false))
    (c.loop-kid.invariant rows sums)
