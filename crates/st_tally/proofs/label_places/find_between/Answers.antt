use Rattle.std.proofs.Common.{◌≡◌, ap, ◌∙◌, arith}
use Rattle.st_tally.specs.declared.label_counts.LabelCount.{LabelCount}
use Rattle.st_tally.proofs.label_places.find_between.Goals as goal

pub returns-then-is_short : goal.returns-then-is_short
returns-then-is_short g c =
    let counts = c.args.counts.now in
    let count = c.index-counts-at.result in
    let label : count.label ≡ c.args.short.now = ap (λ (x : LabelCount g.row.A.Denot). x.label) c.index-counts-at.is ∙ c.is_short.ensures c.if-is_short.true in
    (omega (arith, c.loop-at-test.true, c.requires), (count, c.index-counts-at.is, label))
