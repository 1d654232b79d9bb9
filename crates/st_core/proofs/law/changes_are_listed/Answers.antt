use Rattle.st_core.proofs.Steps.{change_listed, stranger_leaves}
use Rattle.st_core.proofs.law.changes_are_listed.Goals as goal

pub returns-clause-listed : goal.returns-clause-listed
returns-clause-listed g c s asked asker request submits = change_listed s asked asker request submits.known submits.decoded submits.changes

pub returns-clause-strangers : goal.returns-clause-strangers
returns-clause-strangers g c s asked heard = stranger_leaves s asked heard
