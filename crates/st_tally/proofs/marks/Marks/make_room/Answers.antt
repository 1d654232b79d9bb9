use Rattle.st_tally.proofs.marks.Marks.make_room.Goals as goal

pub returns-in-Labels : goal.returns-in-Labels
returns-in-Labels g c = λ kids marked. c.take_labels.ensures kids
