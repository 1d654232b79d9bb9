-- A stage of the code, which no reader has to believe: how a level's operands are gathered.
use Rattle.std.specs.Prelude.{List, [], ◌∷◌}
use Rattle.st_label.specs.Tree.{Tree}
use Rattle.st_label.specs.Grammar.{Op}
use Rattle.st_label.specs.Normal.{insert_all, parts}

-- the operands of a level, from operands in normal form
abbrev pub gathered : Op → List Tree → List Tree
gathered op [] = []
gathered op (r ∷ rs) = insert_all (parts op r) (gathered op rs)
