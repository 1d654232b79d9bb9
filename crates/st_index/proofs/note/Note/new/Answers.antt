use Rattle.std.proofs.Common.{rules}
use Rattle.st_index.proofs.note.Note.new.Goals as goal

pub returns-then-text-gt-MAX_NOTE-clause-fits : goal.returns-then-text-gt-MAX_NOTE-clause-fits
returns-then-text-gt-MAX_NOTE-clause-fits g c = search rules
