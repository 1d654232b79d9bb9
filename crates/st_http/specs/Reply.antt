-- The head of a reply (RFC 9112, "Status Line" and "Field Syntax").
use Rattle.std.specs.Prelude.{ℕ, Bool, ◌==◌, if◌then◌else◌, List, [], ◌++◌, codes, Option, Some, None}
use Rattle.std.specs.Fmt.{decimal}
use Rattle.http.specs.StatusCode.{status_text}
use Rattle.httparse.specs.Ascii.{crlf_bytes}

-- the version, the status code and its phrase
abbrev pub status_line : ℕ → List ℕ
status_line status = codes "HTTP/1.1 " ++ status_text status ++ crlf_bytes

-- the methods of a path (RFC 9110, "Allow")
abbrev pub allow_line : Option (List ℕ) → List ℕ
allow_line None = []
allow_line (Some methods) = codes "Allow: " ++ methods ++ crlf_bytes

-- the challenge to send a token (RFC 6750, "The WWW-Authenticate Response Header Field")
abbrev pub challenge_line : ℕ → List ℕ
challenge_line status = if status == 401 then codes "WWW-Authenticate: Bearer realm=\"points\"" ++ crlf_bytes else []

-- the type of the body (RFC 9110, "Content-Type")
abbrev pub type_line : List ℕ
type_line = codes "Content-Type: application/json" ++ crlf_bytes

-- the length of the body in bytes (RFC 9110, "Content-Length")
abbrev pub length_line : Option ℕ → List ℕ
length_line None = []
length_line (Some length) = codes "Content-Length: " ++ decimal length ++ crlf_bytes

-- the connection is closed (RFC 9112, "Persistence")
abbrev pub close_line : Bool → List ℕ
close_line close = if close then codes "Connection: close" ++ crlf_bytes else []

-- the bytes before the body
unfoldable pub head_text : ℕ → Option (List ℕ) → Option ℕ → Bool → List ℕ
head_text status allow length close =
    status_line status ++ allow_line allow ++ challenge_line status
    ++ type_line ++ length_line length ++ close_line close ++ crlf_bytes
