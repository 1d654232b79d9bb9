-- What the fields of a head say of its message (RFC 9112, "Field Syntax"). A field is a name and a value
-- without the white space around it.
use Rattle.std.specs.Prelude.{ℕ, Bool, true, false, ◌&&◌, ◌||◌, not, List, [], ◌∷◌, length, map, filter, if◌then◌else◌, ◌==◌}
use Rattle.std.specs.Prelude.{nat_lt, codes, Result, Ok, Err}
use Rattle.std.specs.List.{list_all, list_any, slice_split}
use Rattle.std.specs.Char.{is_ascii_digit}
use Rattle.std.specs.Str.{str_eq_ignore_ascii_case}
use Rattle.std.specs.Str.Parse.{digits_value}
use Rattle.httparse.specs.Ascii.{comma}
use Rattle.httparse.specs.Grammar.{trim_ows}
use Rattle.st_http.specs.declared.fields.Reason.{Reason}
use Rattle.st_http.specs.declared.fields.Reason.TheVariants as reasons

abbrev pub Fields : Type 0
Fields = List (List ℕ × List ℕ)

-- the field has this name, in any case
abbrev pub has_name : List ℕ → List ℕ × List ℕ → Bool
has_name name field = str_eq_ignore_ascii_case field.0 name

-- the values of the fields of a name
unfoldable pub values_of : List ℕ → Fields → List (List ℕ)
values_of name fields = map (λ field. field.1) (filter (has_name name) fields)

-- one or more digits
abbrev pub is_number : List ℕ → Bool
is_number text = nat_lt 0 (length text) && list_all is_ascii_digit text

-- the length of a body by the values of Content-Length (RFC 9110, "Content-Length"): without a field there is no body;
-- a second field, or a value that is not a number, breaks the head; more than 65,536 bytes are too many
abbrev pub length_by : List (List ℕ) → Result ℕ Reason
length_by [] = Ok 0
length_by (value ∷ []) =
    if not (is_number value) then Err reasons.Head else
    if nat_lt 65536 (digits_value 10 value) then Err reasons.Size else Ok (digits_value 10 value)
length_by (value ∷ other ∷ values) = Err reasons.Head

-- a head of version 1.1 has one Host field, and any head at most one (RFC 9112, "Request Target")
abbrev pub breaks_host : ℕ → List (List ℕ) → Bool
breaks_host minor [] = minor == 1
breaks_host minor (host ∷ []) = false
breaks_host minor (host ∷ other ∷ hosts) = true

-- the length of a body by the fields; the server supports no Transfer-Encoding (RFC 9112, "Transfer-Encoding")
abbrev pub length_in : Fields → Result ℕ Reason
length_in fields =
    if nat_lt 0 (length (values_of (codes "transfer-encoding") fields)) then Err reasons.Length else
    length_by (values_of (codes "content-length") fields)

-- the length of a message's body, or the first rule that the fields of its head break (RFC 9112, "Message Body Length")
unfoldable pub body_length_of : ℕ → Fields → Result ℕ Reason
body_length_of minor fields = if breaks_host minor (values_of (codes "host") fields) then Err reasons.Host else length_in fields

-- an item of a list without the white space around it is the word
abbrev pub is_word : List ℕ → List ℕ → Bool
is_word word item = str_eq_ignore_ascii_case (trim_ows item) word

-- the items of a list are what stands between its commas (RFC 9110, "Lists")
abbrev pub lists : List ℕ → List ℕ → Bool
lists word value = list_any (is_word word) (slice_split (λ b. b == comma) value)

-- a field of this name has the word in its list
abbrev pub field_lists : List ℕ → List ℕ → List ℕ × List ℕ → Bool
field_lists name word field = has_name name field && lists word field.1

-- the connection is closed after the message (RFC 9112, "Persistence", and RFC 9110, "Connection")
unfoldable pub closes_after : ℕ → Fields → Bool
closes_after minor fields = minor == 0 || list_any (field_lists (codes "connection") (codes "close")) fields

-- the client may wait with the body until it hears `100 Continue` (RFC 9110, "Expect"): not in HTTP/1.0, nor where there is no body
unfoldable pub expects_continue : ℕ → Fields → ℕ → Bool
expects_continue minor fields size = minor == 1 && nat_lt 0 size && list_any (field_lists (codes "expect") (codes "100-continue")) fields

-- the status code of the reply to a text that is not a message (RFC 9110, "Status Codes", and RFC 6585 for 431)
abbrev pub reason_status : Reason → ℕ
reason_status reasons.Length = 411
reason_status reasons.Size = 413
reason_status reasons.Headers = 431
reason_status _ = 400

-- the word by which that reply names the reason
abbrev pub reason_name : Reason → List ℕ
reason_name reasons.Head = codes "head"
reason_name reasons.Host = codes "host"
reason_name reasons.Length = codes "length"
reason_name reasons.Size = codes "size"
reason_name reasons.Headers = codes "headers"
