-- A stage of the code, which no reader has to believe: what the reader makes of a text.
use Rattle.std.specs.Prelude.{◌≡◌, ℕ, List, [], ◌∷◌, Option, Some, None, Result, Ok, Err}
use Rattle.st_label.specs.declared.reader.ReadFault.{ReadFault}
use Rattle.st_label.specs.declared.reader.ReadFault.TheVariants.{Refused, NoMemory}
use Rattle.st_label.specs.Tree.{Term}
use Rattle.st_label.specs.inner.Machine.{Mode, Done}

-- the code's value is the machine's, by a view, or refused when the machine has none
abbrev pub Gives : {X T : Type 0} → (X → T) → Option T → Result X ReadFault → Type 0
Gives view made (Ok x) = made ≡ Some (view x)
Gives view made (Err Refused) = made ≡ None
Gives view made (Err NoMemory) = Unit {0}

-- the unit between quotes, of one byte or more
abbrev pub named : List ℕ → Option Mode
named [] = None
named (n ∷ ns) = Some (Done (Term (n ∷ ns)))
