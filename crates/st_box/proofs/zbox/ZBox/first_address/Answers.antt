use Rattle.st_box.proofs.Boxes.{first_inside, first_least}
use Rattle.st_box.proofs.zbox.ZBox.first_address.Goals as goal

pub returns-clause-inside : goal.returns-clause-inside
returns-clause-inside c = first_inside c.args.self.now _ c.interleave.ensures.value

pub returns-clause-least : goal.returns-clause-least
returns-clause-least c = first_least c.args.self.now _ c.interleave.ensures.value
