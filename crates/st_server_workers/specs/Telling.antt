-- What a server tells on standard output, by how it ends.
use Rattle.std.specs.Prelude.{◌≡◌, ◌⊎◌, ◌++◌, ℕ, Option, Some, Result, Ok, Err, List, [], codes, decimal}
use Rattle.std.specs.Io.KnownBytes.{Appends}
use Rattle.st_text.specs.Texts.{Text}
use Rattle.st_command_line.specs.declared.fault.Fault.{Fault}
use Rattle.st_command_line.specs.declared.fault.Fault.TheVariants.{Bind, Accept, Write, NoMemory, NoPlace, NoThread}

-- a line of standard output
abbrev pub line : (what text : Text) → Text
line what text = what ++ codes " " ++ text ++ codes "\n"

-- What is told of a server at an address: that it listens, and how many connections it served. It ends well only where it was to serve so
-- many connections.
abbrev pub Tells : Text → Option ℕ → Option (List ℕ) → Option (List ℕ) → Result Unit Fault → Type 0
Tells address connections old new (Ok done) =
    (number : ℕ) × (connections ≡ Some number)
    × Appends old new (line (codes "listening") address ++ line (codes "served") (decimal number))
Tells address connections old new (Err Bind) = Appends old new []
Tells address connections old new (Err NoPlace) = Appends old new []
Tells address connections old new (Err Accept) = Appends old new (line (codes "listening") address)
Tells address connections old new (Err NoThread) = Appends old new (line (codes "listening") address)
Tells address connections old new (Err NoMemory) = Appends old new [] ⊎ Appends old new (line (codes "listening") address)
Tells address connections old new (Err Write) = Unit {0}
Tells address connections old new (Err _) = ⊥

-- serving stopped before its end
abbrev pub Stops : Fault → Type 0
Stops fault = (fault ≡ Accept) ⊎ ((fault ≡ NoThread) ⊎ (fault ≡ NoMemory))
