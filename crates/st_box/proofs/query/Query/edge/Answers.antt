use Rattle.st_box.proofs.Parts.{cut_by_bounds}
use Rattle.st_box.proofs.query.Query.edge.Goals as goal

pub returns : goal.returns
returns c = record { cut = cut_by_bounds c.box_in.result c.args.bin c.args.bin _ _ _ _ _ _ c.box_in.ensures.bounds; keys = c.box_in.ensures.keys }
