use Rattle.std.proofs.Common.{◌<◌, length, subst, arith}
use Rattle.std.proofs.lemmas.List.{take_all}
use Rattle.std.specs.List.{All}
use Rattle.st_index.specs.declared.row.Row.{Row}
use Rattle.st_tally.specs.inner.Pages.{rows_of_pages}
use Rattle.st_ubtree.specs.inner.Kids.{pages_of}
use Rattle.st_tally.specs.inner.Sums.{IsWithin}
use Rattle.st_ubtree.proofs.Keeping.{next_bounds}
use Rattle.st_ubtree.proofs.node.sums.bounds_of.Goals as goal

pub loop-kid-init : goal.loop-kid-init
loop-kid-init g c = λ k d l. absurd (omega (arith, l))

pub loop-kid-preserved : goal.loop-kid-preserved
loop-kid-preserved g c =
    let kids = c.args.kids.now in
    let i = c.loop-kid.kid-index in
    let below : i < length kids = omega arith in
    next_bounds c.loop-kid.bounds c.bounds.result c.joined-bounds.result kids i c.kid-item.result below c.kid-item.is
    c.joined-bounds.ensures.own c.joined-bounds.ensures.others c.loop-kid.invariant c.bounds.ensures

pub returns : goal.returns
returns g c =
    subst (λ ks. All (λ (row : Row g.row.A.Denot). IsWithin c.loop-kid.bounds row.point) (rows_of_pages (pages_of ks)))
    (take_all c.loop-kid.kid-index c.args.kids.now c.loop-kid-test.false) c.loop-kid.invariant
