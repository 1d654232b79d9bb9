-- What a note stands for.
use Rattle.std.specs.Borrow.{Bor}
use Rattle.std.specs.Prelude.{ℕ, List, [], Option, Some, None}
use Rattle.st_text.specs.Texts.{Text}

-- a note's text, and the label that lies with it
pub record NoteValue : Type 0 where
  pub text : List ℕ
  pub label : Option Text

-- the text of a note that is lent, which is empty where there is none
abbrev pub lent_bytes : Option (Bor NoteValue) → List ℕ
lent_bytes None = []
lent_bytes (Some note) = note.now.text
