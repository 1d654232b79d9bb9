use Rattle.st_tally.proofs.label_places.find.Goals as goal

pub returns-in-Some : goal.returns-in-Some
returns-in-Some g c = rw (← c.in-Some.ensures) c.find_short.ensures
