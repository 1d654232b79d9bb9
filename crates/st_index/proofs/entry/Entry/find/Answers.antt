use Rattle.st_index.proofs.entry.Entry.find.Goals as goal

pub returns-clause-place : goal.returns-clause-place
returns-clause-place g c = rw (← c.self.view_is) c.find.ensures.place
