use Rattle.std.proofs.Common.{◌≡◌, ap, ◌∙◌, arith}
use Rattle.st_tally.specs.declared.label_counts.LabelCount.{LabelCount}
use Rattle.st_tally.proofs.label_places.is_there.Goals as goal

pub returns : goal.returns
returns g c = λ yes.
    let count = c.index-counts-at.result in
    let label : count.label ≡ c.args.label.now = ap (λ (x : LabelCount g.row.A.Denot). x.label) c.index-counts-at.is ∙ c.is_same.ensures.0 yes in
    (omega arith, (count, c.index-counts-at.is, label))
