-- An invariant of a representation, which no reader has to believe: the name that a term's bytes stand for.
use Rattle.std.specs.Prelude.{ℕ, ◌==◌, List, [], ◌∷◌, Bool, true, false, if◌then◌else◌}

-- the name between quotes, from behind a backslash or not: each backslash is dropped, and the byte behind it kept
abbrev pub unescaped_from : Bool → List ℕ → List ℕ
unescaped_from behind [] = []
unescaped_from true (b ∷ bs) = b ∷ unescaped_from false bs
unescaped_from false (b ∷ bs) = if b == 92 then unescaped_from true bs else b ∷ unescaped_from false bs

-- the name that the bytes stand for, between quotes or plain
abbrev pub term_name : Bool → List ℕ → List ℕ
term_name true bytes = unescaped_from false bytes
term_name false bytes = bytes
