use Rattle.std.proofs.Common.{true, sym, ◌∙◌}
use Rattle.st_tally.proofs.Bounding.{all_inside}
use Rattle.st_tally.proofs.summary.Summary.lies_in.Goals as goal

pub returns : goal.returns
returns g c = λ rows sums lies. all_inside c.args.self.now.bounds c.args.query.now (λ text. true) rows sums.within (sym c.lies_in.ensures ∙ lies)
