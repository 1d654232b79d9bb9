-- What the code takes from the front of a text, which no reader has to believe.
use Rattle.std.specs.Prelude.{◌≡◌, ℕ, ◌<◌, ◌≤◌, List, ⊤}
use Rattle.st_http.specs.declared.message.Take.{Take}
use Rattle.st_http.specs.declared.message.Take.TheVariants as takes
use Rattle.st_http.specs.First.{First, message, fault, more, IsFirst, size_of}
use Rattle.st_http.specs.Message.{RepresentsMessage}

abbrev pub Represents : First → Take → Type 0
Represents (message h body bare) (takes.Message m used) = RepresentsMessage h body bare m × (used ≡ size_of h body)
Represents (fault reason bare) (takes.Fault f) = (f.reason ≡ reason) × (f.bare ≡ bare)
Represents (more waits) (takes.More flag) = flag ≡ waits
Represents _ _ = ⊥

-- the answer is the first item of the text
abbrev pub Takes : List ℕ → Take → Type 0
Takes text taken = (first : First) × IsFirst text first × Represents first taken

-- a message has a byte at least, and no more than the text has
abbrev pub FitsIn : ℕ → Take → Type 0
FitsIn n (takes.Message m used) = (0 < used) × (used ≤ n)
FitsIn n _ = ⊤
