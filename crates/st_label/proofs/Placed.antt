-- An operand before another, in its place or behind it.
use Rattle.std.proofs.Common.{List, ◌∷◌}
use Rattle.std.specs.Ordering.{match_ordering}
use Rattle.std.specs.declared.cmp.Ordering.{Ordering}
use Rattle.st_label.specs.Tree.{Tree}

abbrev pub placed : Ordering → Tree → Tree → List Tree → List Tree → List Tree
placed o r x xs with_r = match_ordering o (r ∷ x ∷ xs) (x ∷ xs) (x ∷ with_r)
