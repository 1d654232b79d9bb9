use Rattle.std.proofs.Common.{ap, arith}
use Rattle.std.proofs.lemmas.Bool.{leb-true}
use Rattle.st_tally.specs.inner.Pages.{NodeValue}
use Rattle.st_tally.proofs.Placing.{same_at}
use Rattle.st_ubtree.proofs.node.even.is_roomy.Goals as goal

pub returns : goal.returns
returns g c = λ roomy.
    let l = c.if-at-kids.false in
    let few = leb-true c.width.result 20 roomy in (
      l,
      λ v here.
          let kid = same_at c.args.kids.now c.args.at v c.index-kids-at.result here (l, c.index-kids-at.is) in
          let same = ap (λ (n : NodeValue g.row.A.Denot). n.width) kid in
          omega (arith, same, few, c.width.ensures),
    )
