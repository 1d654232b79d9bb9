use Rattle.st_tally.proofs.Fielding.{field_within}
use Rattle.st_tally.proofs.bounds.Bounds.one_field.Goals as goal

pub returns-clause-some : goal.returns-clause-some
returns-clause-some g c = field_within (g.F.Fields.query c.args.fields.now) (g.F.Fields.field_of c.args.fields.now) c.args.self.now c.one_field.result c.one_field.ensures.some
