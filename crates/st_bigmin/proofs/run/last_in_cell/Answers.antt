use Rattle.std.proofs.Common.{◌≡◌, ◌*◌, ◌+◌, ◌-◌, ◌^◌, ap, sym, ◌∙◌, subst, arith}
use Rattle.st_box.specs.Corner.{spot_at}
use Rattle.st_box.specs.inner.Corners.{address_at, earlier_of}
use Rattle.st_box.specs.ZBox.{last_of}
use Rattle.st_bigmin.specs.inner.Runs.{IsGreatestInCell}
use Rattle.st_bigmin.proofs.Ends.{greatest_in_cell, cell_room}
use Rattle.st_bigmin.proofs.run.last_in_cell.Goals as goal

pub cell-cell_last-requires-clause-fits : goal.cell-cell_last-requires-clause-fits
cell-cell_last-requires-clause-fits c =
    let a = c.requires.some in
    cell_room c.args.level c.args.prefix a.0 c.requires.level_in_range a.1.is_address a.2 (omega (arith, c.requires.level_in_range))

pub returns : goal.returns
returns c =
    let b = c.args.zbox.now in
    let a = c.requires.some in
    let same : c.earlier_address.result ≡ address_at (earlier_of (last_of b) (spot_at (c.args.prefix * 2 ^ c.args.level + (2 ^ c.args.level - 1)))) =
    c.earlier_address.ensures ∙ ap (λ s. address_at (earlier_of s c.cell-cell_last.result.1)) c.last.ensures ∙ ap (λ s. address_at (earlier_of (last_of b) s)) c.cell-cell_last.ensures.last in
    subst (IsGreatestInCell b c.args.level c.args.prefix) (sym same) (greatest_in_cell b c.args.level c.args.prefix a.0 c.requires.level_in_range a.1 a.2)
