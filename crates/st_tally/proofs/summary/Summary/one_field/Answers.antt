use Rattle.st_tally.proofs.Fielding.{field_of_rows}
use Rattle.st_tally.proofs.summary.Summary.one_field.Goals as goal

pub returns-clause-some : goal.returns-clause-some
returns-clause-some g c = λ rows sums.
    field_of_rows (g.F.Fields.query c.args.fields.now) (g.F.Fields.field_of c.args.fields.now) rows c.args.self.now.bounds c.one_field.result sums.within c.one_field.ensures.some
