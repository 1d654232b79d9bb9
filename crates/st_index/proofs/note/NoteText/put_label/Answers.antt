use Rattle.std.proofs.Common.{rules}
use Rattle.st_index.proofs.note.NoteText.put_label.Goals as goal

pub returns-clause-label : goal.returns-clause-label
returns-clause-label g c = search rules
