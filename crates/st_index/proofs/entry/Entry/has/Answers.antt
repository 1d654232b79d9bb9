use Rattle.st_index.proofs.Taking.{names_found, names_missing}
use Rattle.st_index.proofs.entry.Entry.has.Goals as goal

pub returns-in-Ok-clause-held : goal.returns-in-Ok-clause-held
returns-in-Ok-clause-held g c = λ _ gone. names_found _ c.args.self.now.rows c.in-Ok.field-0 c.in-Ok.ensures.bound c.in-Ok.ensures.place gone

pub returns-in-Err-clause-absent : goal.returns-in-Err-clause-absent
returns-in-Err-clause-absent g c = λ _. names_missing _ c.args.self.now.rows c.in-Err.field-0 c.in-Err.ensures.place
