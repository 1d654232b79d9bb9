use Rattle.st_label.proofs.Steps.{newest}
use Rattle.st_label.proofs.reader.left.Goals as goal

pub returns-in-Some : goal.returns-in-Some
returns-in-Some g c = rw (newest c.args.outer.items c.pop.new.self.items c.in-Some.around c.in-Some.ensures.items) (c.with_unit.ensures _ c.done.ensures)
