-- A representation, which no reader has to believe: where the rows of an entry lie.
use Rattle.std.specs.Prelude.{ℕ, ◌+◌, ◌*◌, ◌^◌, List, [], ◌∷◌, Option, Some, None, IsSome}
use Rattle.st_text.specs.Texts.{Text}
use Rattle.st_index.specs.declared.row.Row.{Row}
use Rattle.st_index.specs.declared.storage.OwnedRows.{OwnedRows}
use Rattle.st_index.specs.declared.storage.OwnedRows.TheVariants.{One, Many}
use Rattle.st_index.specs.declared.storage.Storage.{Storage}
use Rattle.st_index.specs.declared.storage.Storage.TheVariants.{Nowhere, Inline, Noted, Heap}
use Rattle.st_index.specs.KeyPoints.{point_of_key}
use Rattle.st_index.specs.inner.KeyPoints.{IsKey, IsPointKey}

-- the rank of the key
abbrev pub stored_at : {A : Type 0} → Storage A → ℕ
stored_at (Nowhere period bin address) = bin * 2 ^ 63 + address
stored_at (Inline period bin address id label) = bin * 2 ^ 63 + address
stored_at (Noted period bin address id note) = bin * 2 ^ 63 + address
stored_at (Heap period bin address rows) = bin * 2 ^ 63 + address

-- the label that lies with a note, where there is one
abbrev pub label_in : Option Text → Text
label_in None = []
label_in (Some label) = label

-- the rows, wherever they lie
abbrev pub stored_rows : {A : Type 0} → Storage A → List (Row A)
stored_rows (Nowhere period bin address) = []
stored_rows (Inline period bin address id label) =
    record { id = id; point = point_of_key period bin address; label = label; note = [] } ∷ []
stored_rows (Noted period bin address id note) =
    record { id = id; point = point_of_key period bin address; label = label_in note.value.label; note = note.value.text } ∷ []
stored_rows (Heap period bin address rows) = rows.items

-- the same rows by themselves
abbrev pub owned_rows : {A : Type 0} → OwnedRows A → List (Row A)
owned_rows (One row) = row ∷ []
owned_rows (Many rows) = rows.items

-- the parts are those of a key, and where a row is alone, its point has this key
abbrev pub IsStored : {A : Type 0} → Storage A → Type 0
IsStored (Nowhere period bin address) = IsKey bin address
IsStored (Inline period bin address id label) = IsKey bin address × IsPointKey period bin address
IsStored (Noted period bin address id note) = IsKey bin address × IsPointKey period bin address × IsSome note.value.label
IsStored (Heap period bin address rows) = IsKey bin address
