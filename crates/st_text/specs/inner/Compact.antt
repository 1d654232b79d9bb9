-- An invariant of a representation, which no reader has to believe: the bytes that a compact text holds.
use Rattle.std.specs.Prelude.{string_bytes}
use Rattle.st_text.specs.Texts.{Text}
use Rattle.st_text.specs.declared.compact.Storage.{Storage}

-- the bytes, inline, in one box or on the heap
abbrev pub stored_bytes : {A : Type 0} → Storage A → Text
stored_bytes (Storage.Inline short) = short
stored_bytes (Storage.Boxed text) = text.value
stored_bytes (Storage.Heap text) = string_bytes text.value
