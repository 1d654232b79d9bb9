-- The head of a request, its request line and its fields (RFC 9112, "Request Line" and "Field Syntax"),
-- in the grammar that `httparse` reads.
use Rattle.std.specs.Prelude.{◌≡◌, ℕ, Bool, List, ◌++◌, take, codes, ◌↔◌, IsTrue}
use Rattle.httparse.specs.Grammar.{RequestHead, ReadsRequest, HasNoRequest, MayBecomeRequest, LineEnd, print_blank}

-- the next 8,192 bytes of a text, or all of it
unfoldable pub window : List ℕ → List ℕ
window text = take 8192 text

-- what a window holds
pub data Reading : Type 0 where
  -- this head, as its first bytes
  whole : RequestHead → Reading
  -- no head, but the beginning of one, or of a request line up to a place inside its target
  begun : Reading
  -- neither
  hopeless : Reading

abbrev pub HasReading : List ℕ → Reading → Type 0
HasReading p (whole h) = (rest : List ℕ) × ReadsRequest p h rest
HasReading p begun = HasNoRequest p × MayBecomeRequest p
HasReading p hopeless = HasNoRequest p × ¬ (MayBecomeRequest p)

-- after its empty lines (RFC 9112, "Message Parsing") the text begins with `HEAD `
abbrev pub IsBare : List ℕ → Type 0
IsBare p = (blank : List LineEnd) × (rest : List ℕ) × (p ≡ print_blank blank ++ (codes "HEAD " ++ rest))

-- the flag says whether a HEAD request stands first in the text
unfoldable pub DecidesBare : List ℕ → Bool → Type 0
DecidesBare text bare = IsTrue bare ↔ IsBare (window text)
