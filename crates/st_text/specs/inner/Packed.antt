-- Bytes as numbers, by which short texts are compared.
use Rattle.std.specs.Prelude.{ℕ, List}
use Rattle.std.specs.Int.{w64, from_le_bytes}

-- eight bytes as one number, the lowest first
unfoldable pub word : List ℕ → ℕ
word bytes = from_le_bytes w64 bytes
