use Rattle.std.proofs.Common.{refl}
use Rattle.st_label.specs.inner.Views.{outer_view, level_view}
use Rattle.st_label.proofs.Steps.{made, not_made}
use Rattle.st_label.proofs.reader.with_unit.Goals as goal

pub returns-in-Ok : goal.returns-in-Ok
returns-in-Ok g c = λ next h. made (outer_view c.args.outer.items) (level_view c.args.level) next c.args.unit c.in-Ok.unit c.reader_at.result _ c.in-Ok.is c.reader_at.ensures refl h

pub returns-in-Err : goal.returns-in-Err
returns-in-Err g c = λ next h. not_made (outer_view c.args.outer.items) (level_view c.args.level) next c.args.unit c.in-Err.fault _ c.in-Err.is refl h
