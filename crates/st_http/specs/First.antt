-- What a text begins with, its first item: a message, a fault, or too little to tell.
use Rattle.std.specs.Prelude.{◌≡◌, ℕ, ◌+◌, Bool, false, List, take, drop, map, length, if◌then◌else◌, nat_lt, nat_le, Result, Ok, Err, ⊤}
use Rattle.httparse.specs.Grammar.{RequestHead, print_request}
use Rattle.httparse.specs.Spans.{name_and_value}
use Rattle.st_http.specs.declared.fields.Reason.{Reason}
use Rattle.st_http.specs.declared.fields.Reason.TheVariants as reasons
use Rattle.st_http.specs.Head.{window, DecidesBare, Reading, whole, begun, hopeless, HasReading}
use Rattle.st_http.specs.Fields.{Fields, body_length_of, expects_continue}

pub data First : Type 0 where
  -- a head and the body after it, and whether it is a HEAD request
  message : RequestHead → List ℕ → Bool → First
  -- the rule that the text breaks, and whether it is a HEAD request
  fault : Reason → Bool → First
  -- the text is too short to tell, and whether its client may wait to hear that the body is awaited
  more : Bool → First

-- a message or a fault
abbrev pub IsItem : First → Type 0
IsItem (more waits) = ⊥
IsItem _ = ⊤

-- the fields of a head, each a name and a value
abbrev pub fields_of : RequestHead → Fields
fields_of h = map name_and_value h.fields

-- whether the client may wait with a body of this length to hear that it is awaited
abbrev pub waits_with : RequestHead → ℕ → Bool
waits_with h size = expects_continue h.minor (fields_of h) size

-- the message of a head, by the length of its body and the text after it
abbrev pub with_body : RequestHead → List ℕ → Bool → Result ℕ Reason → First
with_body h after bare (Ok n) = if nat_le n (length after) then message h (take n after) bare else more (waits_with h n)
with_body h after bare (Err reason) = fault reason bare

-- the first item of a text whose window reads so
abbrev pub first_by : List ℕ → Bool → Reading → First
first_by text bare (whole h) =
    if nat_lt 64 (length h.fields) then fault reasons.Headers bare else
    with_body h (drop (length (print_request h)) text) bare (body_length_of h.minor (fields_of h))
first_by text bare begun = if nat_lt (length text) 8192 then more false else fault reasons.Headers bare
first_by text bare hopeless = fault reasons.Head bare

abbrev pub IsFirst : List ℕ → First → Type 0
IsFirst text first =
    (reading : Reading) × (bare : Bool) × HasReading (window text) reading × DecidesBare text bare × (first ≡ first_by text bare reading)

-- whether the client may wait to hear that the body of the item is awaited, whether or not it came already
abbrev pub expects : First → Bool
expects (message h body bare) = waits_with h (length body)
expects (fault reason bare) = false
expects (more waits) = waits

-- how many bytes a message has
abbrev pub size_of : RequestHead → List ℕ → ℕ
size_of h body = length (print_request h) + length body
