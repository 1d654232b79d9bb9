-- A stage of the code, which no reader has to believe: how a window is read.
use Rattle.std.specs.Prelude.{◌≡◌, ℕ, ◌<◌, ◌≤◌, Bool, not, List, ◌∷◌, ◌++◌, length}
use Rattle.httparse.specs.Grammar.{RequestHead, ReadsRequest, is_token_byte, IsToken, LineEnd, print_end}
use Rattle.httparse.specs.Ascii.{space}
use Rattle.httparse.specs.declared.spans.HeaderSpan.{HeaderSpan}
use Rattle.httparse.specs.Spans.{IsRequestWithin, IsRequestAt}
use Rattle.st_http.specs.declared.head.HeadRead.{HeadRead}
use Rattle.st_http.specs.declared.head.HeadRead.TheVariants.{Whole, Crowded, Begun, Hopeless}
use Rattle.st_http.specs.Head.{begun, hopeless, HasReading}

-- what the reader of a window answers
abbrev pub Answers : List ℕ → List HeaderSpan → HeadRead → Type 0
Answers p headers (Whole spans) =
    IsRequestWithin p headers spans × (h : RequestHead) × IsRequestAt p headers spans h × (length h.fields ≤ 64)
Answers p headers Crowded = (h : RequestHead) × (rest : List ℕ) × ReadsRequest p h rest × (64 < length h.fields)
Answers p headers Begun = HasReading p begun
Answers p headers Hopeless = HasReading p hopeless

-- the text does not begin with a line end
abbrev pub StartsInLine : List ℕ → Type 0
StartsInLine text = (end : LineEnd) (rest : List ℕ) → text ≡ print_end end ++ rest → ⊥

-- the text is a method, a space and then rest
abbrev pub BeginsWithMethod : List ℕ → List ℕ → List ℕ → Type 0
BeginsWithMethod text method rest = IsToken method × (text ≡ method ++ space ∷ rest)

-- no method has this byte
abbrev pub ends_method : ℕ → Bool
ends_method b = not (is_token_byte b)
