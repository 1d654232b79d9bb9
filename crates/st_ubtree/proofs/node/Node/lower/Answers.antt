use Rattle.std.proofs.Common.{sym, ap, refl, ◌∙◌, arith, rules}
use Rattle.st_key.specs.Key.{rank}
use Rattle.st_tally.specs.inner.Pages.{NodeValue}
use Rattle.st_ubtree.specs.inner.Nodes.{pages_under}
use Rattle.st_ubtree.proofs.Halving.{last_kid}
use Rattle.st_ubtree.specs.inner.Kids.{IsKid}
use Rattle.st_ubtree.proofs.Over.{IsOver, is_over, over_high}
use Rattle.st_ubtree.proofs.node.Node.lower.Given.{Over}
use Rattle.st_ubtree.proofs.node.Node.lower.Goals.{In-Some, in_default-via-in-Page-1, in_default-via-in-Inner+else-len-eq1}
use Rattle.st_ubtree.proofs.node.Node.lower.Goals as goal

over : (g : Over) (c : In-Some g) → IsOver c.self.inside c.in-Inner.kids c.in-Inner.field-1.value c.args.self.now
over g c = is_over c.self.inside c.in-Inner.is refl c.self.invariant c.self.view_is

only : (g : Over) (c : In-Some g) → IsKid (over g c).good.below c.in-Some.only
only g c = last_kid (over g c).good.below c.in-Inner.kids.items c.pop.new.self.items c.in-Some.only (over g c).good.each c.in-Some.ensures.items

pub returns-in-Some-clause-wide : goal.returns-in-Some-clause-wide
returns-in-Some-clause-wide g c = λ tall.
    omega (arith, ap (λ (v : NodeValue g.row.A.Denot). v.width) c.only.view_is, (only g (goal.at.returns-in-Some-clause-wide g c).In-Some).not_less)

pub returns-in-Some-clause-lower : goal.returns-in-Some-clause-lower
returns-in-Some-clause-lower g c =
    let some = (goal.at.returns-in-Some-clause-lower g c).In-Some in
    omega (arith, ap (λ (v : NodeValue g.row.A.Denot). v.height) c.only.view_is, (only g some).same_height, over_high (over g some))

pub returns-in_default-clause-wide : goal.returns-in_default-clause-wide
returns-in_default-clause-wide g c =
    elim c.in_default.branch [
      | in_default-via-in-Page-1 w ↦ search rules
      | in_default-via-in-Inner+else-len-eq1 w ↦
          let good = (is_over c.self.inside w.in-Inner.is refl c.self.invariant c.self.view_is).good in
          λ tall. omega (arith, good.not_less, ap (λ (v : NodeValue g.row.A.Denot). v.width) w.self-is, w.len.ensures, w.if-len-eq1.false)
    ]

pub returns-in_default-clause-first : goal.returns-in_default-clause-first
returns-in_default-clause-first g c =
    let old = ap (λ (v : NodeValue g.row.A.Denot). v.first) c.self.view_is in
    elim c.in_default.branch [
      | in_default-via-in-Page-1 w ↦ ap (λ (v : NodeValue g.row.A.Denot). v.first) w.self-is ∙ old
      | in_default-via-in-Inner+else-len-eq1 w ↦ ap (λ (v : NodeValue g.row.A.Denot). v.first) w.self-is ∙ old
    ]

pub returns-in_default-clause-lower : goal.returns-in_default-clause-lower
returns-in_default-clause-lower g c =
    let old = ap (λ (v : NodeValue g.row.A.Denot). v.height) c.self.view_is in
    elim c.in_default.branch [
      | in_default-via-in-Page-1 w ↦ let new = ap (λ (v : NodeValue g.row.A.Denot). v.height) w.self-is in omega (arith, old, new)
      | in_default-via-in-Inner+else-len-eq1 w ↦ let new = ap (λ (v : NodeValue g.row.A.Denot). v.height) w.self-is in omega (arith, old, new)
    ]

pub returns-in_default-clause-pages : goal.returns-in_default-clause-pages
returns-in_default-clause-pages g c =
    let old = ap (λ (v : NodeValue g.row.A.Denot). v.pages) c.self.view_is in
    elim c.in_default.branch [
      | in_default-via-in-Page-1 w ↦ ap (λ (v : NodeValue g.row.A.Denot). v.pages) w.self-is ∙ old
      | in_default-via-in-Inner+else-len-eq1 w ↦ ap (λ (v : NodeValue g.row.A.Denot). v.pages) w.self-is ∙ ap (pages_under (rank c.self.inside.first)) (sym w.in-Inner.is) ∙ old
    ]
