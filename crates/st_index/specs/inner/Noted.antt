-- What is seen of a note.
use Rattle.std.specs.Prelude.{ℕ, List, [], Option, Some, None, Box}
use Rattle.st_index.specs.Notes.{NoteValue}

-- the text of a note, which is empty where there is none
abbrev pub noted_bytes : {A : Type 0} → Option (Box NoteValue A) → List ℕ
noted_bytes None = []
noted_bytes (Some note) = note.value.text
