-- A stage of the code, which no reader has to believe: how a text grows while a head is written.
use Rattle.std.specs.Prelude.{◌≡◌, ℕ, List, ◌++◌}

-- a text with nothing or more behind it
abbrev pub GrowsTo : List ℕ → List ℕ → Type 0
GrowsTo old new = (more : List ℕ) × (new ≡ old ++ more)
