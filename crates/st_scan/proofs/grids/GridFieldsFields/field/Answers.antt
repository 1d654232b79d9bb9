use Rattle.st_scan.specs.Grids.{field_of}
use Rattle.st_scan.proofs.grids.GridFieldsFields.field.Goals as goal

pub returns-clause-value : goal.returns-clause-value
unfolding field_of
returns-clause-value c =
    let grid = c.args.self.now in
    cc (c.of-line.ensures.value, c.of-column.ensures.value, c.x.ensures.value, c.y.ensures.value, grid.x_first, grid.x_last, grid.y_first, grid.y_last)
