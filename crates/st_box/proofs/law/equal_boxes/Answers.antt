use Rattle.st_box.proofs.SameBoxes.{same_box}
use Rattle.st_box.proofs.law.equal_boxes.Goals as goal

pub returns : goal.returns
returns c = same_box
