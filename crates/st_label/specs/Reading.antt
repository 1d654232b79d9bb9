-- What a label's text means.
use Rattle.std.specs.Prelude.{ℕ, ◌≤◌, List, length, Bool, unwrap_or, option_and_then}
use Rattle.st_label.specs.Tree.{Tree, Or, none, holds}
use Rattle.st_label.specs.Grammar.{Reads}
use Rattle.st_label.specs.Refusals.{max_len, max_depth}
use Rattle.st_label.specs.inner.Machine.{init, run, tree_of}

-- The tree that a label's text reads as by the grammar; a text that reads as none gives a tree that is true for nobody.
-- `law::one_reading` states just this, so that the machine by which it is computed need not be believed.
unfoldable pub reading : List ℕ → Tree
reading text = unwrap_or (option_and_then tree_of (run max_depth init text)) (Or none)

-- a label: it reads as its tree, within both limits
pub record IsLabel (text : List ℕ) : Type 0 where
  pub reads : Reads max_depth text (reading text)
  pub short : length text ≤ max_len

-- whether a label is true for the names that a test holds of
abbrev pub is_true : (List ℕ → Bool) → List ℕ → Bool
is_true has label = holds has (reading label)
