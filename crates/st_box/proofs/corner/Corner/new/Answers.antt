use Rattle.std.proofs.Common.{ap, sym, ◌∙◌}
use Rattle.st_key.specs.Morton.{spread}
use Rattle.st_box.proofs.Lanes.{spread_is, same_spot}
use Rattle.st_box.proofs.corner.Corner.new.Goals as goal

pub invariant_of-result : goal.invariant_of-result
invariant_of-result c = (
  c.spread.ensures ∙ ap (spread 21) (sym (spread_is _ _ c.requires.x_in_range c.spread.ensures)),
  c.spread-2.ensures ∙ ap (spread 21) (sym (spread_is _ _ c.requires.y_in_range c.spread-2.ensures)),
  c.spread-3.ensures ∙ ap (spread 21) (sym (spread_is _ _ c.requires.offset_in_range c.spread-3.ensures)),
)

pub returns : goal.returns
returns c = same_spot _ _ _ _ _ _
    (spread_is _ _ c.requires.x_in_range c.spread.ensures)
    (spread_is _ _ c.requires.y_in_range c.spread-2.ensures)
    (spread_is _ _ c.requires.offset_in_range c.spread-3.ensures)
