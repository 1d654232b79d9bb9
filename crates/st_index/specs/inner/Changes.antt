-- A stage of the code, which no reader has to believe: how a list of entries changed.
use Rattle.std.specs.Prelude.{◌≡◌, ◌<◌, ◌≤◌, List, length, set}
use Rattle.std.specs.List.{insert, remove}
use Rattle.st_index.specs.declared.entries.Change.{Change}
use Rattle.st_index.specs.declared.entries.Change.TheVariants.{Opened, Altered, Closed}
use Rattle.st_index.specs.inner.Entries.{EntryValue}

-- an entry came in at an index, another one stands there, or the one that stood there went
abbrev pub IsChange : {A : Type 0} → Change → (old new : List (EntryValue A)) → Type 0
IsChange {A} (Opened i) old new = (i ≤ length old) × (e : EntryValue A) × (new ≡ insert old i e)
IsChange {A} (Altered i) old new = (i < length old) × (e : EntryValue A) × (new ≡ set old i e)
IsChange {A} (Closed i) old new = (i < length old) × (new ≡ remove old i)
