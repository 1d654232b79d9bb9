use Rattle.std.proofs.Common.{◌≡◌, ap, ◌∙◌, arith}
use Rattle.st_tally.specs.declared.label_counts.LabelCount.{LabelCount}
use Rattle.st_tally.proofs.label_places.spare_between.Goals as goal

pub returns-then-counts-at-eq0 : goal.returns-then-counts-at-eq0
returns-then-counts-at-eq0 g c =
    let count = c.index-counts-at.result in
    let none : count.rows ≡ 0 = ap (λ (x : LabelCount g.row.A.Denot). x.rows) c.index-counts-at.is ∙ c.if-counts-at-eq0.true in
    (omega (arith, c.loop-at-test.true, c.requires), (count, c.index-counts-at.is, none))
