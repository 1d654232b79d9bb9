-- The user and the secret that a head's Authorization field names (RFC 6750, "Authorization Request Header Field").
use Rattle.std.specs.Prelude.{ℕ, Bool, ◌&&◌, ◌==◌, if◌then◌else◌, List, [], ◌∷◌, take, drop}
use Rattle.std.specs.Prelude.{codes, slice_index, Option, None, option_map}
use Rattle.std.specs.List.{before_first, after_first}
use Rattle.std.specs.Result.{result_ok}
use Rattle.std.specs.Str.{str_eq_ignore_ascii_case}
use Rattle.hex.specs.Hex.{decode_sized}
use Rattle.httparse.specs.Ascii.{space}
use Rattle.st_text.specs.Names.{is_dot, is_name}
use Rattle.st_http.specs.Fields.{Fields, values_of}

-- a user name and the bytes of a secret
abbrev pub UserAndSecret : Type 0
UserAndSecret = List ℕ × List ℕ

-- a user name, a dot and the 64 hexadecimal digits of a secret
abbrev pub credentials_of : List ℕ → Option UserAndSecret
credentials_of text =
    if is_name (before_first is_dot text)
    then option_map (λ secret. (before_first is_dot text, secret)) (result_ok (decode_sized (after_first is_dot text) 32))
    else None

-- the text without its leading spaces
abbrev pub skip_spaces : List ℕ → List ℕ
skip_spaces [] = []
skip_spaces (b ∷ text) = if b == space then skip_spaces text else b ∷ text

-- the text begins with the scheme, in any case, and a space
abbrev pub is_bearer : List ℕ → Bool
is_bearer value = str_eq_ignore_ascii_case (take 6 value) (codes "bearer") && slice_index value 6 == space

-- the scheme, one or more spaces and the credentials (RFC 9110, "Credentials")
unfoldable pub credentials_in : List ℕ → Option UserAndSecret
credentials_in value = if is_bearer value then credentials_of (skip_spaces (drop 6 value)) else None

-- those of the one Authorization field
abbrev pub credentials_by : List (List ℕ) → Option UserAndSecret
credentials_by (value ∷ []) = credentials_in value
credentials_by _ = None

unfoldable pub token_of : Fields → Option UserAndSecret
token_of fields = credentials_by (values_of (codes "authorization") fields)
