-- A name is text, and the user of a token is a name.
use Rattle.std.proofs.Common.{◌≡◌, ℕ, ◌<◌, Bool, true, false, cond, List, [], ◌∷◌, length, drop, refl, ap, subst, arith, nat_lt, Option, Some, None, Result, Ok, Err}
use Rattle.std.specs.Prelude.{◌&&◌, nat_le, IsUtf8, codes, option_map}
use Rattle.std.specs.Result.{result_ok}
use Rattle.std.specs.List.{list_all, before_first, after_first}
use Rattle.std.specs.Str.{IsAscii}
use Rattle.std.proofs.lemmas.Bool.Decides.{nat_tests}
use Rattle.std.proofs.lemmas.Str.{IsUtf8-from_ascii}
use Rattle.std.proofs.lemmas.Str.Ascii.{IsAscii-cons, IsAscii-nil}
use Rattle.hex.specs.Hex.{decode_sized}
use Rattle.hex.specs.declared.FromHexError.{FromHexError}
use Rattle.st_http.specs.Fields.{Fields, values_of}
use Rattle.st_text.specs.Names.{is_dot, is_name, is_name_byte}
use Rattle.st_http.specs.Token.{UserAndSecret, credentials_of, skip_spaces, is_bearer, credentials_in, credentials_by, token_of}
use Rattle.st_http.proofs.FieldLemmas.{and_true}

and_first : (a b : Bool) → (a && b) ≡ true → a ≡ true
and_first true b e = refl
and_first false b e = e

name_byte_is_ascii : (b : ℕ) → is_name_byte b ≡ true → b < 128
name_byte_is_ascii b e = grind (arith, nat_tests)

name_bytes_are_ascii : (text : List ℕ) → list_all is_name_byte text ≡ true → IsAscii text
name_bytes_are_ascii [] all = IsAscii-nil
name_bytes_are_ascii (b ∷ text) all =
    IsAscii-cons b text (name_byte_is_ascii b (and_first (is_name_byte b) (list_all is_name_byte text) all))
    (name_bytes_are_ascii text (and_true (is_name_byte b) (list_all is_name_byte text) all))

pub name_is_text : (text : List ℕ) → is_name text ≡ true → IsUtf8 text
name_is_text text is =
    IsUtf8-from_ascii text (name_bytes_are_ascii text (and_true (nat_lt 0 (length text) && nat_le (length text) 32) (list_all is_name_byte text) is))

-- the user of credentials is a name
user_or : Option UserAndSecret → List ℕ
user_or None = []
user_or (Some found) = found.0

named_secret : (text user secret : List ℕ) (r : Result (List ℕ) FromHexError) → is_name text ≡ true
    → option_map {U = UserAndSecret} (λ bytes. (text, bytes)) (result_ok r) ≡ Some (user, secret) → is_name user ≡ true
unfolding user_or
named_secret text user secret (Ok bytes) is e = let same : text ≡ user = ap user_or e in subst (λ (t : List ℕ). is_name t ≡ true) same is
named_secret text user secret (Err e) is none = absurd (cc)

named_text : (text user secret : List ℕ) → credentials_of text ≡ Some (user, secret) → is_name user ≡ true
named_text text user secret e = inside (is_name (before_first is_dot text)) refl e
  where
    inside : (t : Bool) → is_name (before_first is_dot text) ≡ t
        → cond t (option_map {U = UserAndSecret} (λ bytes. (before_first is_dot text, bytes)) (result_ok (decode_sized (after_first is_dot text) 32))) None ≡ Some (user, secret)
        → is_name user ≡ true
    inside true is f = named_secret (before_first is_dot text) user secret (decode_sized (after_first is_dot text) 32) is f
    inside false is f = absurd (cc)

named_if : (t : Bool) (text user secret : List ℕ) → cond t (credentials_of text) None ≡ Some (user, secret) → is_name user ≡ true
named_if true text user secret e = named_text text user secret e
named_if false text user secret e = absurd (cc)

named_in : (value user secret : List ℕ) → credentials_in value ≡ Some (user, secret) → is_name user ≡ true
unfolding credentials_in
named_in value user secret e = named_if (is_bearer value) (skip_spaces (drop 6 value)) user secret e

pub user_named : (fields : Fields) (user secret : List ℕ) → token_of fields ≡ Some (user, secret) → is_name user ≡ true
unfolding token_of
user_named fields user secret e = go (values_of (codes "authorization") fields) e
  where
    go : (values : List (List ℕ)) → credentials_by values ≡ Some (user, secret) → is_name user ≡ true
    go [] f = absurd (cc)
    go (value ∷ []) f = named_in value user secret f
    go (value ∷ other ∷ values) f = absurd (cc)
