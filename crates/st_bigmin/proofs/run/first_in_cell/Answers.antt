use Rattle.std.proofs.Common.{◌≡◌, ◌*◌, ◌^◌, ap, sym, ◌∙◌, subst, arith}
use Rattle.st_box.specs.Corner.{spot_at}
use Rattle.st_box.specs.inner.Corners.{address_at, later_of}
use Rattle.st_box.specs.ZBox.{first_of}
use Rattle.st_bigmin.specs.inner.Runs.{IsLeastInCell}
use Rattle.st_bigmin.proofs.Ends.{least_in_cell, cell_room}
use Rattle.st_bigmin.proofs.run.first_in_cell.Goals as goal

pub cell-cell_first-requires-clause-fits : goal.cell-cell_first-requires-clause-fits
cell-cell_first-requires-clause-fits c =
    let a = c.requires.some in
    cell_room c.args.level c.args.prefix a.0 c.requires.level_in_range a.1.is_address a.2 (omega (arith, c.requires.level_in_range))

pub returns : goal.returns
returns c =
    let b = c.args.zbox.now in
    let a = c.requires.some in
    let same : c.later_address.result ≡ address_at (later_of (first_of b) (spot_at (c.args.prefix * 2 ^ c.args.level))) =
    c.later_address.ensures ∙ ap (λ s. address_at (later_of s c.cell-cell_first.result.0)) c.first.ensures ∙ ap (λ s. address_at (later_of (first_of b) s)) c.cell-cell_first.ensures.first in
    subst (IsLeastInCell b c.args.level c.args.prefix) (sym same) (least_in_cell b c.args.level c.args.prefix a.0 c.requires.level_in_range a.1 a.2)
