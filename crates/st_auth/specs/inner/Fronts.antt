-- What the first bytes of a text spell, by which most texts are told apart.
use Rattle.std.specs.Prelude.{ℕ, zero, suc, [], ◌∷◌, ◌+◌, ◌*◌, ◌<◌, slice_index}
use Rattle.st_text.specs.Texts.{Text}

-- the number that so many bytes spell after n, the greatest first; past the end of the text they are zeros
unfoldable pub spelt : ℕ → ℕ → Text → ℕ
spelt zero n text = n
spelt (suc k) n [] = spelt k (n * 256) []
spelt (suc k) n (b ∷ bytes) = spelt k (n * 256 + b) bytes

-- of a text, what its first 8 bytes spell
abbrev pub front : Text → ℕ
front text = spelt 8 0 text

abbrev pub AreBytes : Text → Type 0
AreBytes text = (i : ℕ) → slice_index text i < 256
