-- Whose store an opening is of.
use Rattle.std.specs.Prelude.{◌==◌, ℕ, List}
use Rattle.std.specs.List.{before_first}

-- the first word of an opening, which says whose store it is
abbrev pub owner_in : List ℕ → List ℕ
owner_in opening = before_first (λ b. b == 32) opening
