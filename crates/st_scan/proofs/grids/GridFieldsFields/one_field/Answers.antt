use Rattle.std.proofs.Common.{◌≡◌, ◌+◌, ◌*◌, ap, ◌∙◌}
use Rattle.st_box.proofs.Bounds.{has}
use Rattle.st_scan.specs.Grids.{column_of, field_of, line_of}
use Rattle.st_scan.proofs.grids.GridFieldsFields.one_field.Goals as goal

pub returns-clause-some : goal.returns-clause-some
unfolding field_of
returns-clause-some c = λ p inside between.
    let grid = c.args.self.now in
    let q = grid.query.now in
    let nx = grid.columns.shares in
    let ny = grid.lines.shares in
    let is = has q p inside in
    let column : column_of q nx p ≡ c.in_ok-column.column = (rw (grid.x_first, grid.x_last) at c.in_ok-column.ensures.some) p.x is.x_from is.x_to between.0 between.1 in
    let line : line_of q ny p ≡ c.in_ok-line.line = (rw (grid.y_first, grid.y_last) at c.in_ok-line.ensures.some) p.y is.y_from is.y_to between.2 between.3 in
    ap (λ l. l * nx + column_of q nx p) line ∙ ap (λ k. c.in_ok-line.line * nx + k) column
